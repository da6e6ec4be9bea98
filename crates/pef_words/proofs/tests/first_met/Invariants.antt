-- The tests left decide.
use Rattle.std.proofs.Common.{◌≡◌, drop}
use Rattle.pef_words.specs.Refusals.{first_met}
use Rattle.pef_words.proofs.tests.first_met.Given as goal

abbrev pub invariant-loop-met : goal.invariant-loop-met
invariant-loop-met g l = first_met (drop l.met-index l.fn.tests) ≡ first_met l.fn.tests
