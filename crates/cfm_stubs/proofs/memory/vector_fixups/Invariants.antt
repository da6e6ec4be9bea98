-- The fixups so far, and those that are left, are all.
use Rattle.std.proofs.Common.{◌≡◌, ◌*◌, ◌≤◌, ◌++◌, drop}
use Rattle.cfm_stubs.specs.MemoryStubs.{vector_fixups}
use Rattle.cfm_stubs.proofs.memory.vector_fixups.Given as goal

abbrev pub invariant-loop-k : goal.invariant-loop-k
invariant-loop-k l = record {
  all : l.fixups.items ++ vector_fixups l.at (drop l.k l.symbols) ≡ vector_fixups 0 l.symbols;
  small : l.at ≤ 8 * l.k;
}
