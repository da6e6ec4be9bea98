use Rattle.pef_plan.specs.Runs.Tables.{number_in}
use Rattle.pef_plan.specs.Kept.Rows.{LeastOf}
use Rattle.pef_plan.proofs.rows.least_in_column.Given as goal

abbrev pub invariant-classes : goal.invariant-classes
invariant-classes l = LeastOf l.c (λ c. number_in l.classes l.row c l.class) l.low
