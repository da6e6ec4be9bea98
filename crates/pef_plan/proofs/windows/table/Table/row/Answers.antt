use Rattle.std.proofs.Common.{◌∙◌, ◌*◌, ap, arith, drop, rules, sym, take}
use Rattle.std.proofs.lemmas.List.{length-drop}
use Rattle.pef_plan.proofs.WindowsProofs.TableLemmas.{row_inside, rows-at, rows_count}
use Rattle.pef_plan.proofs.windows.table.Table.row.Goals as goal

pub overflow_mul-index : goal.overflow_mul-index
overflow_mul-index c =
    let s = c.self.inside in
    let low = row_inside c.args.index s.rows s.width s.values.items (rw (← c.self.view_is) at c.requires) c.self.invariant in
    let len = s.values.ok in
    search (rules, low, len)

pub split_at-requires : goal.split_at-requires
split_at-requires c =
    let s = c.self.inside in
    let low = row_inside c.args.index s.rows s.width s.values.items (rw (← c.self.view_is) at c.requires) c.self.invariant in
    rw c.deref.ensures.value (omega (arith, low))

pub split_at-requires-2 : goal.split_at-requires-2
split_at-requires-2 c =
    let s = c.self.inside in
    let low = row_inside c.args.index s.rows s.width s.values.items (rw (← c.self.view_is) at c.requires) c.self.invariant in
    rw (c.split_at.ensures.back, c.deref.ensures.value, length-drop (c.args.index * s.width) s.values.items) (omega (arith, low))

pub returns-clause-is : goal.returns-clause-is
returns-clause-is c =
    let s = c.self.inside in
    let under = rw (← c.self.view_is) at c.requires in
    let count = rows_count s.rows s.width s.values.items in
    rw (← c.self.view_is)
    (c.split_at-2.ensures.front
    ∙ (ap (take s.width) (c.split_at.ensures.back ∙ ap (drop (c.args.index * s.width)) c.deref.ensures.value)
    ∙ sym (rows-at s.rows s.width c.args.index s.values.items (omega (arith, under, count)))))
