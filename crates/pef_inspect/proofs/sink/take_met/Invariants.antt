-- What was taken and what is left are all.
use Rattle.std.proofs.Common.{◌≡◌, ◌++◌, drop}
use Rattle.pef_words.specs.Findings.{all_met}
use Rattle.pef_inspect.proofs.sink.take_met.Given as goal

abbrev pub invariant-loop-met : goal.invariant-loop-met
invariant-loop-met g l = g.S.Findings.taken l.sink ++ all_met (drop l.met-index l.fn.tests) ≡ g.S.Findings.taken l.fn.sink ++ all_met l.fn.tests
