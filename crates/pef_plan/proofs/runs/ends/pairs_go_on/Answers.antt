use Rattle.std.proofs.Common.{◌+◌, ℕ, ap₂, rules, subst}
use Rattle.pef_plan.specs.Runs.Ends.{Begins}
use Rattle.pef_plan.specs.declared.runs.run.Run.TheVariants.{Pairs, SpacedPairs}
use Rattle.pef_plan.proofs.runs.ends.pairs_go_on.Goals as goal

pub returns-in-Some-clause-near : goal.returns-in-Some-clause-near
returns-in-Some-clause-near c = (c.in-Some.rest.now, search rules, subst (λ (p : ℕ). Begins (Pairs c.args.first c.args.second) p 0 c.in-Some.rest.now c.begins.result) (ap₂ (λ x y. x + y) c.from-position.ensures c.stride.ensures) c.begins.ensures)

pub returns-in-Some-clause-far : goal.returns-in-Some-clause-far
returns-in-Some-clause-far c = (c.in-Some.rest.now, search rules, subst (λ (p : ℕ). Begins (SpacedPairs c.args.first c.args.second) p 0 c.in-Some.rest.now c.begins-in-Some.result) (ap₂ (λ x y. x + y) c.from-position.ensures c.stride-in-Some.ensures) c.begins-in-Some.ensures)
