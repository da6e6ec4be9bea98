-- Which files the words `NAME=FILE` and `[NAME=]FILE` of a line name. These rules are the program's own.
use Rattle.std.specs.Prelude.{ℕ, List, [], ◌∷◌, Option, None, Some, option_and_then, option_map}
use Rattle.pef_lines.specs.Lines.{cut_at}

-- a name, which isn't empty, with a path, which may be empty
abbrev pub file_at : List ℕ → List ℕ → Option (List ℕ × List ℕ)
file_at [] path = None
file_at (b ∷ name) path = Some (b ∷ name, path)

-- the file that a word names: the name is before the first `=` (3D in hex), the path after it
abbrev pub named_file : List ℕ → Option (List ℕ × List ℕ)
named_file word = option_and_then (λ p. file_at p.0 p.1) (cut_at 0x3D word)

-- the files that the words name, in order, if each names one. A name may be used twice.
abbrev pub named_files : List (List ℕ) → Option (List (List ℕ × List ℕ))
named_files [] = Some []
named_files (word ∷ words) = option_and_then (λ file. option_map (λ files. file ∷ files) (named_files words)) (named_file word)

-- a file with fragments: the name that a word gives its first one, if it does, and the path
abbrev pub Operand : Type 0
Operand = Option (List ℕ) × List ℕ

-- a name, unless it is empty
abbrev pub given : List ℕ → Option (List ℕ)
given [] = None
given (b ∷ name) = Some (b ∷ name)

-- the file of a word that is split at its first `=`, if it has one
abbrev pub operand_at : List ℕ → Option (List ℕ × List ℕ) → Operand
operand_at word None = (None, word)
operand_at word (Some p) = (given p.0, p.1)

-- the file that a word `[NAME=]FILE` names: each word names one
abbrev pub file_operand : List ℕ → Operand
file_operand word = operand_at word (cut_at 0x3D word)
