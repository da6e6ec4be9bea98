-- Numbers that rise.
use Rattle.std.specs.Prelude.{ℕ, Bool, true, ◌&&◌, nat_lt, List, [], ◌∷◌}

-- each number is above the one before it
abbrev pub above_all : ℕ → List ℕ → Bool
above_all low [] = true
above_all low (n ∷ numbers) = nat_lt low n && above_all n numbers
