-- Those so far, and those that are left, are all.
use Rattle.std.proofs.Common.{◌≡◌, ◌+◌, drop}
use Rattle.cfm_stubs.specs.MemoryStubs.{vectors}
use Rattle.cfm_stubs.proofs.memory.count_vectors.Given as goal

abbrev pub invariant-loop-k : goal.invariant-loop-k
invariant-loop-k l = l.count + vectors (drop l.k l.symbols) ≡ vectors l.symbols
