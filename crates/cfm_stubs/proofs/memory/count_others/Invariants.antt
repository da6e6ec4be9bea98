-- Those so far, and those that are left, are all.
use Rattle.std.proofs.Common.{◌≡◌, ◌+◌, drop}
use Rattle.cfm_stubs.specs.MemoryStubs.{others}
use Rattle.cfm_stubs.proofs.memory.count_others.Given as goal

abbrev pub invariant-loop-k : goal.invariant-loop-k
invariant-loop-k l = l.count + others (drop l.k l.symbols) ≡ others l.symbols
