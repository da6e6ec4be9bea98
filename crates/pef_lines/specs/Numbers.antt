-- The numbers that digits spell (docs/SCRIPTS.md, "Text").
use Rattle.std.specs.Prelude.{ℕ, ◌+◌, ◌*◌, ◌-◌, ◌^◌, ◌==◌, ◌&&◌, ◌||◌, List, [], ◌∷◌, Option, None, Some, length, nat_le, nat_lt, if◌then◌else◌}
use Rattle.std.specs.Option.{option_and_then}

-- the value of a hex digit, of either case
abbrev pub hex_value : ℕ → Option ℕ
hex_value b =
    if nat_le 0x30 b && nat_le b 0x39 then Some (b - 0x30)
    else if nat_le 0x41 b && nat_le b 0x46 then Some (b - 0x37)
    else if nat_le 0x61 b && nat_le b 0x66 then Some (b - 0x57)
    else None

-- a number, if it is below a limit
abbrev pub below : ℕ → Option ℕ → Option ℕ
below limit None = None
below limit (Some n) = if nat_lt n limit then Some n else None

-- the number that digits to a base spell after a number so far
abbrev pub digits_value : ℕ → ℕ → List ℕ → Option ℕ
digits_value base so_far [] = Some so_far
digits_value base so_far (b ∷ bytes) = option_and_then (λ d. digits_value base (so_far * base + d) bytes) (below base (hex_value b))

-- the number of 32 bits that digits to a base spell
abbrev pub digits_number : ℕ → List ℕ → Option ℕ
digits_number base digits = below (2 ^ 32) (digits_value base 0 digits)

-- one to eight hex digits
abbrev pub hex_number : List ℕ → Option ℕ
hex_number digits = if length digits == 0 || nat_lt 8 (length digits) then None else digits_number 16 digits

-- nothing follows a leading 0
abbrev pub zero_before : List ℕ → Option ℕ
zero_before [] = Some 0
zero_before (b ∷ bytes) = None

-- decimal digits without a leading zero
abbrev pub decimal_number : List ℕ → Option ℕ
decimal_number [] = None
decimal_number (b ∷ bytes) = if b == 0x30 then zero_before bytes else digits_number 10 (b ∷ bytes)
