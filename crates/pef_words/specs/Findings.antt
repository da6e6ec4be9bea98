-- The words in which a grammar says all that is wrong, in place of what comes first. Both are read off the same
-- tables of tests.
use Rattle.std.specs.Prelude.{ℕ, zero, suc, ◌+◌, Bool, List, [], ◌∷◌, ◌++◌, Option, None, Some, Result, Ok, Err, if◌then◌else◌}

-- the faults of all tests of a table that hold, in order
abbrev pub all_met : {F : Type 0} → List (Bool × F) → List F
all_met [] = []
all_met (test ∷ tests) = if test.0 then test.1 ∷ all_met tests else all_met tests

-- the answers at each of the n places from a place on, in order
abbrev pub all_among : {F : Type 0} → (ℕ → List F) → ℕ → ℕ → List F
all_among answers from zero = []
all_among answers from (suc n) = answers from ++ all_among answers (from + 1) n

-- what is found in something that was read; if it wasn't, the one fault on which all others depend
abbrev pub found_in : {A F : Type 0} → (A → List F) → Result A F → List F
found_in findings (Ok x) = findings x
found_in findings (Err fault) = fault ∷ []

-- the first of some faults
abbrev pub first_fault : {F : Type 0} → List F → Option F
first_fault [] = None
first_fault (fault ∷ faults) = Some fault
