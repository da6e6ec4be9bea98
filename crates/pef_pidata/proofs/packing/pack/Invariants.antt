-- The packed bytes so far, and those of the rest, are the whole.
use Rattle.std.proofs.Common.{◌≡◌, ◌≤◌, ◌++◌, length}
use Rattle.pef_pidata.specs.Packing.{packed_of}
use Rattle.pef_pidata.proofs.packing.pack.Given as goal

abbrev pub invariant-loop-rest : goal.invariant-loop-rest
invariant-loop-rest l = record {
  within : length l.rest ≤ length l.image;
  left : l.packed.items ++ packed_of l.rest ≡ packed_of l.image;
}

abbrev pub decreases-loop-rest : goal.decreases-loop-rest
decreases-loop-rest l = length l.rest
