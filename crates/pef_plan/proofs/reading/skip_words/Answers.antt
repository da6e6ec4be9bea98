use Rattle.std.proofs.Common.{◌∙◌, arith, sym}
use Rattle.pef_plan.specs.Kept.Steps.{labels_tabled}
use Rattle.pef_plan.proofs.MoveFacts.{counts_here, skip_set, skip_taken}
use Rattle.pef_plan.proofs.PickLemmas.{pick_set, pick_skip}
use Rattle.pef_plan.proofs.StepFacts.{agrees_others}
use Rattle.pef_plan.proofs.reading.skip_words.Goals as goal

pub set_d-requires-clause-low : goal.set_d-requires-clause-low
set_d-requires-clause-low c =
    skip_set c.args.known c.args.here c.args.section c.class_of-class.result c.requires.here c.requires.near c.requires.away c.requires.base c.class_of-class.ensures c.if-class-here.true

pub returns-clause-falls : goal.returns-clause-falls
returns-clause-falls c = λ s in_place.
    let k = c.args.known in
    let h = c.args.here in
    let agrees = agrees_others k h c.requires.here in
    let worth = c.best_skip.ensures.chosen.worth (labels_tabled k) agrees in
    let value = skip_taken k h c.args.section c.best_skip.result.value c.requires.here c.requires.near c.requires.base (sym c.class_of-class.ensures ∙ c.if-class-here.false) (counts_here k h c.args.section c.requires.here c.requires.base) (c.best_skip.ensures.is (labels_tabled k) agrees) in
    record { goes = c.best_skip.ensures.chosen.goes s in_place; falls = omega (arith, worth, value) }

pub returns-then-class-here-clause-first : goal.returns-then-class-here-clause-first
returns-then-class-here-clause-first c = λ none.
    pick_set c.args.known c.args.here c.args.section c.class_of-class.result c.set_d.result c.requires.here c.requires.away none c.requires.near c.requires.base c.class_of-class.ensures c.set_d.ensures.falls c.set_d.ensures.instr

pub returns-clause-first : goal.returns-clause-first
returns-clause-first c = λ none.
    let k = c.args.known in
    let h = c.args.here in
    let agrees = agrees_others k h c.requires.here in
    let of = sym c.class_of-class.ensures ∙ c.if-class-here.false in
    let value = skip_taken k h c.args.section c.best_skip.result.value c.requires.here c.requires.near c.requires.base of (counts_here k h c.args.section c.requires.here c.requires.base) (c.best_skip.ensures.is (labels_tabled k) agrees) in
    pick_skip k h c.args.section c.args.words c.best_skip.result c.requires.here c.requires.away none c.requires.near c.requires.base of c.requires.words value c.best_skip.ensures.first
