use Rattle.std.proofs.Common.{sym}
use Rattle.pef_labels.specs.Kept.Packed.{numbers_at}
use Rattle.pef_labels.proofs.RowLemmas.{rows-some}
use Rattle.pef_labels.proofs.packed.PackedRows.rows.Goals as goal

pub returns-in-Some : goal.returns-in-Some
returns-in-Some c =
    let s = c.self.inside in
    let here = rw (c.in-Some.is, c.deref.ensures.value) at c.last.ensures.value in
    rw (← c.self.view_is) (rows-some s.width c.in-Some.end.now s.ends.items (numbers_at 0 s.values.steps.items s.values.far.items) c.self.invariant (sym here))
