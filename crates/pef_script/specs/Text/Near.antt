-- Names that are nearly the same, as a name and what is meant by it if a few keys were missed. They are equal but for upper
-- and lower case, or one of them has one byte changed, left out or added, or two neighbours exchanged.
use Rattle.std.specs.Prelude.{ℕ, ◌==◌, ◌&&◌, ◌||◌, Bool, false, List, [], ◌∷◌, drop, if◌then◌else◌}
use Rattle.std.specs.Str.{bytes_eq, str_eq_ignore_ascii_case}

-- what is left of two names after their longest common front
abbrev pub past_common : List ℕ → List ℕ → List ℕ × List ℕ
past_common [] other = ([], other)
past_common (x ∷ xs) [] = (x ∷ xs, [])
past_common (x ∷ xs) (y ∷ ys) = if x == y then past_common xs ys else (x ∷ xs, y ∷ ys)

-- the first two bytes are exchanged
abbrev pub are_exchanged : List ℕ → List ℕ → Bool
are_exchanged (x ∷ y ∷ xs) (u ∷ v ∷ ys) = (x == v) && (y == u) && bytes_eq xs ys
are_exchanged one other = false

-- names that differ from here on differ in one step: the byte here is changed, is left out of one of them, or is exchanged
-- with the next one
abbrev pub is_one_step : List ℕ × List ℕ → Bool
is_one_step p = bytes_eq (drop 1 p.0) (drop 1 p.1) || bytes_eq (drop 1 p.0) p.1 || bytes_eq p.0 (drop 1 p.1) || are_exchanged p.0 p.1

unfoldable pub is_near : List ℕ → List ℕ → Bool
is_near one other = str_eq_ignore_ascii_case one other || is_one_step (past_common one other)
