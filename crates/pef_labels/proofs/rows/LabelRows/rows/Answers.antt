use Rattle.std.proofs.Common.{sym}
use Rattle.pef_labels.proofs.RowLemmas.{rows-none, rows-some}
use Rattle.pef_labels.proofs.rows.LabelRows.rows.Goals as goal

pub returns-in-Some : goal.returns-in-Some
returns-in-Some c =
    let here = rw (c.in-Some.is, c.deref.ensures.value) at c.last.ensures.value in
    rw (← c.self.view_is) (rows-some c.self.inside.width c.in-Some.end.now c.self.inside.ends.items c.self.inside.values.items c.self.invariant (sym here))

pub returns-in-None : goal.returns-in-None
returns-in-None c =
    let here = rw (c.in-None.is, c.deref.ensures.value) at c.last.ensures.value in
    rw (← c.self.view_is) (rows-none c.self.inside.width c.self.inside.ends.items c.self.inside.values.items (sym here))
