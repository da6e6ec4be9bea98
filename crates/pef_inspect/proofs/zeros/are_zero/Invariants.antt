-- The bytes passed are 0.
use Rattle.std.proofs.Common.{◌≡◌, drop}
use Rattle.pef_inspect.specs.Zeros.{are_zero}
use Rattle.pef_inspect.proofs.zeros.are_zero.Given as goal

abbrev pub invariant-loop-byte : goal.invariant-loop-byte
invariant-loop-byte l = are_zero (drop l.byte-index l.bytes) ≡ are_zero l.bytes
