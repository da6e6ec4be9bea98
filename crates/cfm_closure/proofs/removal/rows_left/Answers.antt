-- The fragment in the place is marked.
use Rattle.std.proofs.Common.{◌∙◌, List, Bool, ap}
use Rattle.cfm_closure.specs.Kept.Removal.{is_marked}
use Rattle.cfm_closure.proofs.removal.rows_left.Goals as goal

pub returns : goal.returns
returns c = c.in_ok-left.ensures c.args.place (ap (λ (marks : List Bool). is_marked marks c.args.place) c.deref_mut.ensures.value ∙ c.in_ok-marks.ensures.here)
