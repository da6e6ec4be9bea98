-- What was taken and what is left are all.
use Rattle.std.proofs.Common.{◌≡◌, ◌++◌, drop, map}
use Rattle.pef_words.specs.Findings.{all_met}
use Rattle.pef_views.specs.PartialViews.{partly}
use Rattle.pef_inspect.specs.Findings.{loader_finding}
use Rattle.pef_inspect.proofs.tables.take_faults.Given as goal

abbrev pub invariant-loop-met : goal.invariant-loop-met
invariant-loop-met g l = g.S.Findings.taken l.sink ++ map (loader_finding (partly l.container)) (all_met (drop l.met-index l.fn.tests)) ≡ g.S.Findings.taken l.fn.sink ++ map (loader_finding (partly l.container)) (all_met l.fn.tests)
