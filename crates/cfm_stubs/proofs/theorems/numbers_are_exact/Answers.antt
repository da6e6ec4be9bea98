-- Each symbol has its own number.
use Rattle.cfm_stubs.proofs.ExactLemmas.{number_at, numbers_apart}
use Rattle.cfm_stubs.proofs.theorems.numbers_are_exact.Goals as goal

pub returns : goal.returns
returns c = record { numbers = number_at; apart = numbers_apart }
