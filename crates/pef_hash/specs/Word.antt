-- Hash words, slots and the power of a table (Mac OS Runtime Architectures, "PEF Structure", "Export Hash Table").
-- That the running value is signed, and which power is chosen, are this project's own.
use Rattle.std.specs.Prelude.{ℕ, zero, suc, ◌+◌, ◌-◌, ◌*◌, ◌/◌, ◌%◌, ◌^◌, ℤ, pos, List, fold, length, nat_lt, if◌then◌else◌, bit_and, bit_xor}
use Rattle.std.specs.Int.{w32, cast_unsigned, int_bit_xor, int_shl, int_shr, int_wrapping_sub}
use Rattle.pef_hash.specs.Limits.{exports_a_slot, most_written_power}

-- the running value h after one more byte b, ((h << 1) - (h >> 16)) xor b: a signed number of 32 bits that wraps
unfoldable pub hash_step : ℤ → ℕ → ℤ
hash_step h b = int_bit_xor w32 (int_wrapping_sub w32 (int_shl w32 h 1) (int_shr h 16)) (pos b)

-- the running value after some bytes, from 0
abbrev pub hash_value : List ℕ → ℤ
hash_value bytes = fold hash_step (pos 0) bytes

-- the length in the high 16 bits, and the low 16 bits of h xor (h >> 16) below them
unfoldable pub hash_word : List ℕ → ℕ
hash_word name =
    let h = hash_value name in
    length name * 2 ^ 16 + cast_unsigned w32 (int_bit_xor w32 h (int_shr h 16)) % 2 ^ 16

-- the slot of a word among 2^power: (word xor (word >> power)) and (2^power - 1)
unfoldable pub slot : ℕ → ℕ → ℕ
slot word power = bit_and (bit_xor word (word / 2 ^ power)) (2 ^ power - 1)

-- the first of the n powers from a power on with few exports for each slot, and the power after them if there is
-- none
unfoldable pub least_power : ℕ → ℕ → ℕ → ℕ
least_power count power zero = power
least_power count power (suc n) = if nat_lt (count / 2 ^ power) exports_a_slot then power else least_power count (power + 1) n

-- the power of the table that is written for some exports
abbrev pub power_of : ℕ → ℕ
power_of count = least_power count 0 most_written_power
