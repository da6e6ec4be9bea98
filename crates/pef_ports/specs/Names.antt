-- How names and paths are printed, so that none can break a line or be taken for another (docs/ERRORS.md, "How a
-- refusal is printed").
use Rattle.std.specs.Prelude.{ℕ, ◌/◌, ◌%◌, ◌==◌, ◌&&◌, Bool, not, List, [], ◌∷◌, ◌++◌, nat_le, if◌then◌else◌}
use Rattle.pef_ports.specs.Text.{hex_digit}

-- a byte that is printed unchanged: 21 to 7E (hex) except `%`
abbrev pub is_plain_byte : ℕ → Bool
is_plain_byte b = nat_le 0x21 b && nat_le b 0x7E && not (b == 37)

-- a byte of a name as it is printed: unchanged, or as `%` and two upper-case hex digits
unfoldable pub byte_text : ℕ → List ℕ
byte_text b = if is_plain_byte b then b ∷ [] else 37 ∷ hex_digit (b / 16) ∷ hex_digit (b % 16) ∷ []

-- a name as it is printed
abbrev pub name_text : List ℕ → List ℕ
name_text [] = []
name_text (b ∷ name) = byte_text b ++ name_text name
