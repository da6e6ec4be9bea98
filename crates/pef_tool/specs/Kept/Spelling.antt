-- What follows a text in some bytes.
use Rattle.std.specs.Prelude.{ℕ, ◌==◌, List, [], ◌∷◌, Option, None, Some, if◌then◌else◌}

-- .. if they begin with it
abbrev pub after : List ℕ → List ℕ → Option (List ℕ)
after [] bytes = Some bytes
after (b ∷ text) [] = None
after (b ∷ text) (x ∷ bytes) = if b == x then after text bytes else None

-- what follows a byte in some bytes, if they begin with it
abbrev pub after_one : ℕ → List ℕ → Option (List ℕ)
after_one b bytes = after (b ∷ []) bytes
