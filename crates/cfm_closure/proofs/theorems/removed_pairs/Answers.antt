use Rattle.cfm_store.proofs.Laws.{removed-place}
use Rattle.cfm_closure.proofs.StoreLemmas.{closed-removed, fragment-removed, target-removed}
use Rattle.cfm_closure.proofs.theorems.removed_pairs.Goals as goal

pub returns : goal.returns
returns c = record {
  fragment = fragment-removed;
  place = λ pairs name other p first apart. removed-place pairs name p first other apart;
  closure = closed-removed;
  target = target-removed;
}
