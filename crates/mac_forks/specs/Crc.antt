-- The CRC of a MacBinary header (MacBinary II: that of the CCITT with the polynomial x^16 + x^12 + x^5 + 1, which
-- begins at 0 and takes the high bit of each byte first).
use Rattle.std.specs.Prelude.{ℕ, zero, suc, ◌*◌, ◌%◌, List, [], ◌∷◌, nat_lt, if◌then◌else◌}
use Rattle.std.specs.Int.Bits.{bit_xor}

-- what is left of 16 bits and a bit 0 after them, divided by the polynomial 11021 (hexadecimal)
unfoldable pub shifted : ℕ → ℕ
shifted bits = if nat_lt bits 0x8000 then bits % 0x8000 * 2 else bit_xor (bits % 0x8000 * 2) 0x1021

-- .. and n bits 0
unfoldable pub shifted_by : ℕ → ℕ → ℕ
shifted_by zero bits = bits
shifted_by (suc n) bits = shifted_by n (shifted bits)

-- the remainder after one byte more
unfoldable pub remainder_after : ℕ → ℕ → ℕ
remainder_after crc byte = shifted_by 8 (bit_xor crc (byte * 256))

-- the remainder after some bytes
abbrev pub remainder_from : ℕ → List ℕ → ℕ
remainder_from crc [] = crc
remainder_from crc (b ∷ bytes) = remainder_from (remainder_after crc b) bytes

-- the CRC of some bytes
unfoldable pub crc_of : List ℕ → ℕ
crc_of bytes = remainder_from 0 bytes
