-- The ranges so far end before it.
use Rattle.std.proofs.Common.{◌≡◌, take}
use Rattle.cfm_memory.specs.Kept.Searches.{AllPassed}
use Rattle.cfm_memory.proofs.memory.rank_of.Given as goal

abbrev pub invariant-loop-other : goal.invariant-loop-other
invariant-loop-other l = record {
  rank : l.rank ≡ l.other-index;
  passed : AllPassed l.range.from (take l.other-index l.ranges);
}
