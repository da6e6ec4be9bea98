use Rattle.std.proofs.Common.{◌≡◌, ℕ, ◌∙◌, arith, sym}
use Rattle.pef_plan.specs.Runs.Places.{bound_of}
use Rattle.pef_plan.proofs.RunTests.{bound-above, section_met}
use Rattle.pef_plan.proofs.SiftLemmas.{section_at_once, section_found}
use Rattle.pef_plan.proofs.direct.direct_section.Goals as goal

pub returns-clause-least : goal.returns-clause-least
returns-clause-least c = λ l value agrees low above.
    let a = c.args in
    let one : ℕ = c.single_section-choice.result.value in
    let best : ℕ = c.best_in_d.result.choice.value in
    let single = c.single_section-choice.ensures.value l agrees in
    let in_c = c.best_in_c-best.ensures in
    let in_d = c.best_in_d.ensures in
    let better_c = in_c.better in
    let better_d = in_d.better in
    let label : c.best_in_d.result.label ≡ a.label = in_d.label ∙ in_c.label in
    let first : bound_of a.label one ≡ one = bound-above a.label one (let no = c.if-choice-label.false in omega (arith, no)) in
    let last : bound_of c.best_in_d.result.label best ≡ best = bound-above c.best_in_d.result.label best (omega (arith, label, above)) in
    section_met l a.here a.here.place.import_index a.section value (omega (arith, low, first, last, better_c, better_d, single))
    (λ is. in_c.least l value agrees (omega (arith, low, last, better_d)) is)
    (λ is. in_d.least l value agrees (omega (arith, low, last)) is)

pub returns-then-choice-label-clause-first : goal.returns-then-choice-label-clause-first
returns-then-choice-label-clause-first c =
    let a = c.args in
    let low = c.if-choice-label.true in
    let one = c.single_section-choice in
    section_at_once a.known a.here a.section a.label one.result one.ensures.chosen one.ensures.instr (omega (arith, low))

pub returns-clause-first : goal.returns-clause-first
returns-clause-first c =
    let a = c.args in
    let one = c.single_section-choice in
    section_found a.known a.here a.section c.class_of-class.result a.label one.result c.best_in_c-best.result c.best_in_d.result
    c.requires.here c.requires.base (sym c.class_of-class.ensures) one.ensures.chosen one.ensures.instr
    c.best_in_c-best.ensures.first c.best_in_d.ensures.first (c.best_in_d.ensures.label ∙ c.best_in_c-best.ensures.label)
