use Rattle.std.proofs.Common.{◌+◌, slice_index}
use Rattle.pef_plan.specs.Kept.Rows.{LeastOf}
use Rattle.pef_plan.proofs.rows.least.Given as goal

abbrev pub invariant-numbers : goal.invariant-numbers
invariant-numbers l = LeastOf l.d (λ d. slice_index l.numbers (l.from + d)) l.low
