-- What is left decides.
use Rattle.std.proofs.Common.{◌≡◌, drop}
use Rattle.cfm_memory.specs.Kept.Searches.{range_number}
use Rattle.cfm_memory.proofs.memory.number_of.Given as goal

abbrev pub invariant-loop-other : goal.invariant-loop-other
invariant-loop-other l = record {
  number : l.number ≡ l.other-index;
  rest : range_number (drop l.other-index l.ranges) l.range l.number ≡ range_number l.ranges l.range 0;
}
