-- What is wrong with a line that is refused as `BadLine`, for a message (docs/SCRIPTS.md, "Text" and "Lines"). Its bytes are
-- looked at first, then its spaces, then its words.
use Rattle.std.specs.Prelude.{ℕ, ◌+◌, ◌-◌, ◌==◌, ◌&&◌, ◌||◌, Bool, false, List, [], ◌∷◌, Option, None, Some, length, nat_le, slice_get, unwrap_or, if◌then◌else◌}
use Rattle.std.specs.Option.{option_map_or, option_or}
use Rattle.pef_words.specs.Refusals.{first_met}
use Rattle.pef_lines.specs.Cursor.{words_of}
use Rattle.pef_script.specs.declared.text.form.Form.{Form}
use Rattle.pef_script.specs.declared.text.oddity.Oddity.{Oddity}
use Rattle.pef_script.specs.declared.text.oddity.Oddity.TheVariants.{CarriageReturn, Tab, Byte, SpaceAtStart, SpaceAtEnd, TwoSpaces, FirstWord, Words, Spelling}
use Rattle.pef_script.specs.Text.Earlier.{form_in}
use Rattle.pef_script.specs.Text.Forms.{row_of}

-- a space or a printing byte
abbrev pub is_text : ℕ → Bool
is_text b = nat_le 0x20 b && nat_le b 0x7E

-- what is wrong with a byte that is neither a space nor printing
abbrev pub byte_oddity : ℕ → Oddity
byte_oddity b = if b == 0x0D then CarriageReturn else if b == 0x09 then Tab else Byte

-- what is wrong with the first byte that isn't allowed
abbrev pub odd_byte : List ℕ → Option Oddity
odd_byte [] = None
odd_byte (b ∷ bytes) = if is_text b then odd_byte bytes else Some (byte_oddity b)

-- a byte is there and is a space
abbrev pub is_space : Option ℕ → Bool
is_space byte = option_map_or (λ b. b == 0x20) byte false

abbrev pub has_two_spaces : List ℕ → Bool
has_two_spaces [] = false
has_two_spaces (b ∷ bytes) = (b == 0x20 && is_space (slice_get bytes 0)) || has_two_spaces bytes

abbrev pub space_tests : List ℕ → List (Bool × Oddity)
space_tests line = (is_space (slice_get line 0), SpaceAtStart)
    ∷ (is_space (slice_get line (length line - 1)), SpaceAtEnd)
    ∷ (has_two_spaces line, TwoSpaces)
    ∷ []

-- with this many words
abbrev pub odd_count : ℕ → ℕ → Oddity
odd_count has wants = if has == wants then Spelling else Words has wants

abbrev pub odd_words : ℕ → Option Form → Oddity
odd_words has None = FirstWord
odd_words has (Some form) = odd_count has (length (row_of form).words + 1)

unfoldable pub oddity_of : List ℕ → Oddity
oddity_of line = unwrap_or (option_or (odd_byte line) (first_met (space_tests line))) (odd_words (length (words_of line)) (form_in line))
