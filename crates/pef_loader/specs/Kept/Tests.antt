-- The tests of the rows of a table.
use Rattle.std.specs.Prelude.{◌≡◌, ℕ, ◌<◌, Option, Result}
use Rattle.std.specs.Result.{result_err}
use Rattle.pef_words.specs.Refusals.{first_among}
use Rattle.pef_loader.specs.declared.fault.LoaderFault.{LoaderFault}

-- if the test of each row reports the row's first broken rule, the result is the first that any row breaks
abbrev pub TestsEach : (ℕ → Result (Unit {0}) LoaderFault → Type 0) → ℕ → Result (Unit {0}) LoaderFault → Type 0
TestsEach tests count result = (refusal : ℕ → Option LoaderFault)
    → ((i : ℕ) (r : Result (Unit {0}) LoaderFault) → i < count → tests i r → result_err r ≡ refusal i)
    → result_err result ≡ first_among refusal 0 count
