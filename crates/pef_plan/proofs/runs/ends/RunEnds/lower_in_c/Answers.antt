use Rattle.pef_plan.proofs.runs.ends.RunEnds.lower_in_c.Goals as goal

pub returns-clause-best : goal.returns-clause-best
returns-clause-best c = λ d under width limit rows w. c.lower.ensures.best width limit rows d w under
