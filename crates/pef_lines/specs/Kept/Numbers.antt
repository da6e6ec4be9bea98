-- The number at the front of a line, by its digits, and the words after it.
use Rattle.std.specs.Prelude.{◌≡◌, ℕ, ◌+◌, ◌*◌, ◌^◌, ◌<◌, ◌≤◌, ◌==◌, List, [], ◌∷◌, ◌++◌, Option, None, Some, length, nat_lt, slice_index, if◌then◌else◌}
use Rattle.std.specs.Option.{option_map_or}
use Rattle.byteorder.specs.Endian.{big_number}
use Rattle.pef_lines.specs.Cursor.{first_number, words_of}
use Rattle.pef_lines.specs.Numbers.{below, hex_value}

-- a number and the words after it, if the line ends there or a space follows
abbrev pub separated : ℕ × List ℕ → Option (ℕ × List (List ℕ))
separated (n, []) = Some (n, [])
separated (n, b ∷ bytes) = if b == 0x20 then Some (n, words_of bytes) else None

-- the number that digits after a number so far spell, and the words after it, if the line ends after them or a space
-- follows
abbrev pub digits_parted : ℕ → List ℕ → Option (ℕ × List (List ℕ))
digits_parted n [] = Some (n, [])
digits_parted n (b ∷ bytes) = option_map_or (λ d. digits_parted (n * 10 + d) bytes) (below 10 (hex_value b)) (separated (n, b ∷ bytes))

-- a number of 32 bits
abbrev pub limited : Option (ℕ × List (List ℕ)) → Option (ℕ × List (List ℕ))
limited None = None
limited (Some p) = if nat_lt p.0 (2 ^ 32) then Some p else None

-- bytes are numbers below 256
abbrev pub AreBytes : List ℕ → Type 0
AreBytes bytes = (k : ℕ) → slice_index bytes k < 256

-- the bytes of digits, of a digit 0 and of a space, as a number
abbrev pub key_of : List ℕ → ℕ
key_of digits = big_number (length digits) digits * 65536 + 0x3020

-- digits that make a number with any digit after them: that digit and a number of tens
abbrev pub IsHead : List ℕ → ℕ → Type 0
IsHead digits tens = (d : ℕ) (rest : List ℕ) → d ≤ 9 → first_number (words_of (digits ++ (0x30 + d) ∷ 0x20 ∷ rest)) ≡ Some (tens + d, words_of rest)
