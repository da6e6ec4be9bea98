-- The name of a fragment whose file gives it none: that of the file, without its extension.
use Rattle.std.specs.Prelude.{ℕ, ◌==◌, List, [], ◌∷◌, Option, None, Some, if◌then◌else◌}

-- what is before the last dot of a name, if it has one
abbrev pub front_of : ℕ → Option (List ℕ) → Option (List ℕ)
front_of b (Some front) = Some (b ∷ front)
front_of b None = if b == 0x2E then Some [] else None

abbrev pub before_dot : List ℕ → Option (List ℕ)
before_dot [] = None
before_dot (b ∷ name) = front_of b (before_dot name)

-- a name up to its last dot, if that isn't its first byte
abbrev pub stem_at : List ℕ → Option (List ℕ) → List ℕ
stem_at name None = name
stem_at name (Some []) = name
stem_at name (Some (b ∷ front)) = b ∷ front

unfoldable pub stem : List ℕ → List ℕ
stem name = stem_at name (before_dot name)
