-- Where the next word of a line ends.
use Rattle.std.specs.Prelude.{ℕ, suc, ◌==◌, ◌&&◌, not, List, [], ◌∷◌, Option, None, Some, length, if◌then◌else◌}
use Rattle.pef_lines.specs.Words.{is_printing}

-- how many printing bytes there are at the front
abbrev pub printing_len : List ℕ → ℕ
printing_len [] = 0
printing_len (b ∷ bytes) = if is_printing b then suc (printing_len bytes) else 0

-- bytes that are some, and those after the space that follows them
abbrev pub word_parted : List ℕ → List ℕ → Option (List ℕ × List ℕ)
word_parted word [] = None
word_parted word (b ∷ behind) = if b == 0x20 && not (length word == 0) then Some (word, behind) else None
