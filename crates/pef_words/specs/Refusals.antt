-- The words in which a grammar says which of its refusals comes first, and what is read if there is
-- none. The format says what is wrong, and not what is reported first. The order of the tests is this
-- project's own, and each grammar has it as a list.
use Rattle.std.specs.Prelude.{ℕ, zero, suc, ◌+◌, Bool, List, [], ◌∷◌, Option, None, Some, Result, Ok, Err, if◌then◌else◌}
use Rattle.std.specs.Option.{option_or}

-- the rest of the reading after a part that was read; none if that part wasn't read
infixl 10 ◌>>=◌
abbrev pub ◌>>=◌ : {A B : Type 0} → Option A → (A → Option B) → Option B
(Some x) >>= f = f x
None >>= f = None

-- the fault of the first test of a table that holds
abbrev pub first_met : {F : Type 0} → List (Bool × F) → Option F
first_met [] = None
first_met (test ∷ tests) = if test.0 then Some test.1 else first_met tests

-- the first answer among those at the n places from a place on
abbrev pub first_among : {F : Type 0} → (ℕ → Option F) → ℕ → ℕ → Option F
first_among answer from zero = None
first_among answer from (suc n) = option_or (answer from) (first_among answer (from + 1) n)

-- the refusal, or if there is none the other result
abbrev pub unless : {A F : Type 0} → Option F → Result A F → Result A F
unless None otherwise = otherwise
unless (Some fault) otherwise = Err fault

-- a result with a function applied to its value
abbrev pub result_map : {A B F : Type 0} → (A → B) → Result A F → Result B F
result_map f (Ok x) = Ok (f x)
result_map f (Err fault) = Err fault
