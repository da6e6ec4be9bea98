-- What is left decides, whatever the tests tell.
use Rattle.std.proofs.Common.{◌≡◌, ℕ, ◌<◌, ◌-◌, Option, Result}
use Rattle.std.specs.Result.{result_err}
use Rattle.pef_words.specs.Refusals.{first_among}
use Rattle.pef_loader.specs.declared.fault.LoaderFault.{LoaderFault}
use Rattle.pef_loader.proofs.tables.test_each.Given as goal

abbrev pub invariant-loop-i : goal.invariant-loop-i
invariant-loop-i g l = (refusal : ℕ → Option LoaderFault)
    → ((i : ℕ) (r : Result (Unit {0}) LoaderFault) → i < l.count → goal.F-post g l.test i r → result_err r ≡ refusal i)
    → first_among refusal l.i (l.count - l.i) ≡ first_among refusal 0 l.count
