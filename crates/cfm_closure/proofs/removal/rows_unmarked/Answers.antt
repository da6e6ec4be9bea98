-- The marks say what is left.
use Rattle.std.proofs.Common.{inr}
use Rattle.cfm_closure.proofs.removal.rows_unmarked.Goals as goal

pub returns : goal.returns
returns c = λ place here.
    inr (record {
      marks = c.mark_needing.new.marks;
      here = c.mark_needing.ensures.stay.still place here;
      apart = c.mark_needing.ensures.apart c.if-not-mark_needing.false;
      without = c.in_ok-left.ensures;
    })
