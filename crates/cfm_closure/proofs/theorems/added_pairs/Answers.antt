use Rattle.std.proofs.Common.{None, ap, ◌∙◌}
use Rattle.std.specs.Prelude.{is_some}
use Rattle.cfm_store.specs.Additions.{with_pair}
use Rattle.cfm_closure.proofs.AbsentLemmas.{closed-missing}
use Rattle.cfm_closure.proofs.SameLemmas.{fragment_of-same}
use Rattle.cfm_store.proofs.Laws.{pair_of-with, placed-place}
use Rattle.cfm_closure.proofs.StoreLemmas.{closed-placed, target-placed}
use Rattle.cfm_closure.proofs.theorems.added_pairs.Goals as goal

pub returns : goal.returns
returns c = record {
  fragment = λ pairs n p inside. fragment_of-same pairs (with_pair pairs n) p (pair_of-with pairs n p inside);
  place = λ pairs n name p is. placed-place pairs n None tt name (λ same. ap is_some is) ∙ is;
  closure = λ pairs n. closed-placed pairs n None tt;
  target = λ pairs n. target-placed pairs n None tt;
  missing = closed-missing;
}
