-- How numbers and memory are printed (README, `pef show`): upper-case hex, sixteen bytes a line. Our own form.
use Rattle.std.specs.Prelude.{ℕ, zero, suc, ◌+◌, ◌/◌, ◌%◌, ◌==◌, List, [], ◌∷◌, ◌++◌, codes, nat_lt, length, take, drop, if◌then◌else◌}
use Rattle.byteorder.specs.Endian.{big_bytes}

-- an upper-case hexadecimal digit
abbrev pub hex_digit : ℕ → ℕ
hex_digit d = if nat_lt d 10 then 48 + d else 55 + d

-- the two digits of each byte
abbrev pub hex_text : List ℕ → List ℕ
hex_text [] = []
hex_text (b ∷ bytes) = hex_digit (b / 16) ∷ hex_digit (b % 16) ∷ hex_text bytes

-- the eight digits of a number of 32 bits
abbrev pub word_text : ℕ → List ℕ
word_text n = hex_text (big_bytes 4 n)

-- digits without the zeros at their start, but for the last digit
abbrev pub without_zeros : List ℕ → List ℕ
without_zeros [] = []
without_zeros (d ∷ []) = d ∷ []
without_zeros (d ∷ e ∷ digits) = if d == 48 then without_zeros (e ∷ digits) else d ∷ e ∷ digits

-- the digits of a number of 64 bits, without such zeros
unfoldable pub digits_text : ℕ → List ℕ
digits_text n = without_zeros (hex_text (big_bytes 8 n))

-- an offset: `0x` and its digits
abbrev pub offset_text : ℕ → List ℕ
offset_text n = codes "0x" ++ digits_text n

-- n groups of four bytes, each after a space
unfoldable pub groups : ℕ → List ℕ → List ℕ
groups zero bytes = []
groups (suc n) bytes = 32 ∷ hex_text (take 4 bytes) ++ groups n (drop 4 bytes)

-- bytes in groups of four, of which the last may be shorter
abbrev pub group_text : List ℕ → List ℕ
group_text bytes = groups ((length bytes + 3) / 4) bytes

-- a line of memory: its address and its bytes
abbrev pub row_text : ℕ → List ℕ → List ℕ
row_text address bytes = word_text address ++ group_text bytes ++ 10 ∷ []

-- n lines of sixteen bytes
unfoldable pub rows : ℕ → ℕ → List ℕ → List ℕ
rows zero address bytes = []
rows (suc n) address bytes = row_text address (take 16 bytes) ++ rows n (address + 16) (drop 16 bytes)

-- memory in lines of sixteen bytes, of which the last may be shorter
abbrev pub dump_text : ℕ → List ℕ → List ℕ
dump_text address bytes = rows ((length bytes + 15) / 16) address bytes
