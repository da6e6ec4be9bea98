use Rattle.std.proofs.Common.{◌≤◌, length}
use Rattle.pef_pidata.proofs.Steps.{IsLeft}
use Rattle.pef_pidata.proofs.packed.expand.Given as goal

abbrev pub invariant-loop-at : goal.invariant-loop-at
invariant-loop-at l = record {
  inside : l.at ≤ length l.out;
  left : IsLeft l.packed l.out l.rest l.at;
}

abbrev pub decreases-loop-at : goal.decreases-loop-at
decreases-loop-at l = length l.rest
