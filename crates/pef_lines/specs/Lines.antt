-- What is between equal bytes of a text: its lines, and the words of a line (docs/SCRIPTS.md, "Text").
use Rattle.std.specs.Prelude.{ℕ, ◌==◌, List, [], ◌∷◌, Option, None, Some, option_map, if◌then◌else◌}

-- what is before the first byte of a value, and what is after it
abbrev pub cut_at : ℕ → List ℕ → Option (List ℕ × List ℕ)
cut_at byte [] = None
cut_at byte (b ∷ bytes) = if b == byte then Some ([], bytes) else option_map (λ p. (b ∷ p.0, p.1)) (cut_at byte bytes)

abbrev pub longer_first : ℕ → List (List ℕ) → List (List ℕ)
longer_first b [] = (b ∷ []) ∷ []
longer_first b (part ∷ parts) = (b ∷ part) ∷ parts

-- what is between the bytes of a value, at the ends too
abbrev pub parts_of : ℕ → List ℕ → List (List ℕ)
parts_of byte [] = [] ∷ []
parts_of byte (b ∷ bytes) = if b == byte then [] ∷ parts_of byte bytes else longer_first b (parts_of byte bytes)

-- the lines of a text: each ends with a line feed, which the last one may lack
abbrev pub lines_of : List ℕ → List (List ℕ)
lines_of text = parts_of 0x0A text
