use Rattle.pef_plan.specs.Runs.Kept.Runs.{SoFar}
use Rattle.pef_plan.proofs.runs.suffix.SolvedSuffix.best_of_run.Given as goal

abbrev pub invariant-ends : goal.invariant-ends
invariant-ends l = SoFar l.self l.here l.run l.from l.done l.next l.fn.first l.best
