-- The vectors so far, and those that are left, are all.
use Rattle.std.proofs.Common.{◌≡◌, ◌*◌, ◌≤◌, ◌++◌, drop}
use Rattle.cfm_stubs.specs.MemoryStubs.{vector_image}
use Rattle.cfm_stubs.proofs.memory.vector_image.Given as goal

abbrev pub invariant-loop-k : goal.invariant-loop-k
invariant-loop-k l = record {
  all : l.image.items ++ vector_image l.code (drop l.k l.symbols) ≡ vector_image 0 l.symbols;
  small : l.code ≤ 8 * l.k;
}
