use Rattle.std.proofs.Common.{◌≡◌, ◌⊎◌, ◌∙◌, ℕ, arith, subst}
use Rattle.pef_plan.specs.declared.runs.run.Run.TheVariants.{Skip}
use Rattle.pef_plan.specs.Runs.Runs.{EndOf, Ends}
use Rattle.pef_plan.proofs.SiftLemmas.{first_skip}
use Rattle.pef_plan.proofs.SkipFacts.{best_skip-is, skip_some}
use Rattle.pef_plan.proofs.skips.best_skip.Goals as goal

pub returns-clause-is : goal.returns-clause-is
returns-clause-is c = λ l agrees.
    let a = c.args in
    let value : ℕ = c.best_of_run.result.value in
    let one : ℕ = c.single_skip-choice.result.value in
    let is = c.single_skip-choice.ensures.value l agrees in
    let attained = subst (λ (from : ℕ). (value ≡ one) ⊎ EndOf l (Skip a.words a.section) a.here from value) c.from-from.ensures (c.best_of_run.ensures.attained l agrees) in
    best_skip-is l a.known a.here a.words a.section value one c.requires.here agrees c.requires.base c.requires.holds is attained
    (subst (λ (from : ℕ). Ends l (Skip a.words a.section) a.here from value) c.from-from.ensures
    (c.best_of_run.ensures.ends l value agrees (omega arith) (skip_some l a.here a.words a.section value one _ is attained)))

pub returns-clause-first : goal.returns-clause-first
returns-clause-first c =
    let a = c.args in
    let one = c.single_skip-choice in
    first_skip a.known a.here a.words a.section c.from-from.result (record { choice = one.result; label = 0 }) c.best_of_run.result
    ((c.requires.holds, c.requires.words), c.from-from.ensures ∙ c.requires.from)
    one.ensures.chosen one.ensures.instr c.best_of_run.ensures.chosen c.best_of_run.ensures.found
