-- The bytes left make the remainder.
use Rattle.std.proofs.Common.{◌≡◌, drop}
use Rattle.mac_forks.specs.Crc.{remainder_from}
use Rattle.mac_forks.proofs.crc.crc_16.Given as goal

abbrev pub invariant-loop-byte : goal.invariant-loop-byte
invariant-loop-byte l = remainder_from l.crc (drop l.byte-index l.bytes) ≡ remainder_from 0 l.bytes
