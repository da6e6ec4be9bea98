-- The bytes left decide.
use Rattle.std.proofs.Common.{◌≡◌, drop}
use Rattle.mac_forks.specs.MacBinary.{all_zero}
use Rattle.mac_forks.proofs.mac_binary.all_zero.Given as goal

abbrev pub invariant-loop-byte : goal.invariant-loop-byte
invariant-loop-byte l = all_zero (drop l.byte-index l.bytes) ≡ all_zero l.bytes
