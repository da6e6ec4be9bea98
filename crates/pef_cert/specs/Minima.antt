-- The least of some numbers.
use Rattle.std.specs.Prelude.{ℕ, zero, suc, ◌+◌, min, Bool, true, false, List, [], ◌∷◌, Option, None, Some}

-- the lesser of two numbers that may be none
abbrev pub lesser : Option ℕ → Option ℕ → Option ℕ
lesser None y = y
lesser (Some x) None = Some x
lesser (Some x) (Some y) = Some (min x y)

-- the least of the values at the numbers below n, if there is one
abbrev pub least_below : ℕ → (ℕ → Option ℕ) → Option ℕ
least_below zero value = None
least_below (suc n) value = lesser (value n) (least_below n value)

-- the least of a number and of the others that exist
abbrev pub least_of : ℕ → List (Option ℕ) → ℕ
least_of x [] = x
least_of x (None ∷ others) = least_of x others
least_of x (Some y ∷ others) = least_of (min x y) others

-- a number under a condition
abbrev pub when : Bool → Option ℕ → Option ℕ
when true value = value
when false value = None

-- a number with something added, if there is one
abbrev pub plus : ℕ → Option ℕ → Option ℕ
plus n None = None
plus n (Some x) = Some (n + x)
