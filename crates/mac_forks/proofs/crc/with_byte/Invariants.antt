-- The bits left make the remainder.
use Rattle.std.proofs.Common.{◌≡◌, ◌-◌, ◌*◌}
use Rattle.std.specs.Int.Bits.{bit_xor}
use Rattle.mac_forks.specs.Crc.{shifted_by}
use Rattle.mac_forks.proofs.crc.with_byte.Given as goal

abbrev pub invariant-bits : goal.invariant-bits
invariant-bits l = shifted_by (8 - l.counter) l.rest ≡ shifted_by 8 (bit_xor l.fn.crc (l.fn.byte * 256))
