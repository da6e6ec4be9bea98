use Rattle.std.proofs.Common.{◌≤◌, ◌-◌, length}
use Rattle.pef_reloc.proofs.WalkLemmas.{ProgramWalk}
use Rattle.pef_reloc.proofs.verifying.verify_bytes.Given as goal

abbrev pub invariant-loop-at : goal.invariant-loop-at
invariant-loop-at l = record {
  inside : l.at ≤ length l.bytes;
  left : ProgramWalk l.sizes l.bytes l.at l.walk;
}

abbrev pub decreases-loop-at : goal.decreases-loop-at
decreases-loop-at l = length l.bytes - l.at
