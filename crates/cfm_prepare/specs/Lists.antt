-- Lists of numbers.
use Rattle.std.specs.Prelude.{◌≡◌, ◌==◌, ℕ, Bool, false, true, List, [], ◌∷◌, if◌then◌else◌}

-- whether a list has a number
abbrev pub has : List ℕ → ℕ → Bool
has [] p = false
has (q ∷ qs) p = if q == p then true else has qs p

-- a list has no number twice
abbrev pub IsOnce : List ℕ → Type 0
IsOnce [] = Unit {0}
IsOnce (q ∷ qs) = (has qs q ≡ false) × IsOnce qs
