-- The bytes that may still come, with all bytes, are as many as the most with those that come.
use Rattle.std.proofs.Common.{◌≡◌, ◌+◌, drop, length}
use Rattle.std.specs.List.{sum_by}
use Rattle.cfm_stubs.specs.Symbols.{Symbol}
use Rattle.cfm_stubs.proofs.memory.has_many_bytes.Given as goal

abbrev pub invariant-loop-k : goal.invariant-loop-k
invariant-loop-k l = l.left + sum_by (λ (s : Symbol). length s.name + 1) l.symbols ≡ 8388608 + sum_by (λ (s : Symbol). length s.name + 1) (drop l.k l.symbols)
