use Rattle.cfm_store.specs.Additions.{free_for, with_put}
use Rattle.cfm_store.proofs.Laws.{free-place, new-end, place_of-new}
use Rattle.cfm_closure.proofs.StoreLemmas.{closed-placed, fragment-new, target-placed}
use Rattle.cfm_closure.proofs.theorems.stored_pairs.Goals as goal

pub returns : goal.returns
unfolding with_put
returns c = record {
  fragment = fragment-new;
  place = place_of-new;
  end = new-end;
  closure = λ pairs n. closed-placed pairs n (free_for pairs n.name) (free-place pairs n);
  target = λ pairs n. target-placed pairs n (free_for pairs n.name) (free-place pairs n);
}
