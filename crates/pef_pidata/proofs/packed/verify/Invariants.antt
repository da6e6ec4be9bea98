use Rattle.std.proofs.Common.{◌≤◌, length}
use Rattle.pef_pidata.proofs.Verifying.{IsRefusedAs}
use Rattle.pef_pidata.proofs.packed.verify.Given as goal

abbrev pub invariant-loop-at : goal.invariant-loop-at
invariant-loop-at l = record {
  inside : l.at ≤ l.len;
  left : IsRefusedAs l.packed l.rest l.len l.at;
}

abbrev pub decreases-loop-at : goal.decreases-loop-at
decreases-loop-at l = length l.rest
