use Rattle.std.proofs.Common.{ap, arith}
use Rattle.pef_plan.proofs.WindowsProofs.TableLemmas.{rows-added, rows_count}
use Rattle.pef_plan.proofs.windows.table.Table.push.Goals as goal

pub overflow_add-self : goal.overflow_add-self
overflow_add-self c =
    let s = c.self.inside in
    let room = rw (← c.self.view_is) at c.requires.room in
    let count = rows_count s.rows s.width s.values.items in
    omega (arith, room, count)

pub returns-clause-ok : goal.returns-clause-ok
returns-clause-ok c =
    let s = c.self.inside in
    let wide = rw (← c.self.view_is) at c.requires.wide in
    rw (← c.self.view_is, c.in_ok-extend_from_slice.ensures.items)
    (ap (λ rows. record { width = s.width; rows = rows }) (rows-added s.rows s.width s.values.items c.args.row.now c.self.invariant wide))
