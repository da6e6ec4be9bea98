-- A section that isn't refused is passed over, and the first one that is ends the tests.
use Rattle.std.proofs.Common.{◌∙◌, ◌<◌, sym, arith}
use Rattle.std.proofs.lemmas.Result.{err_from_is_err_and}
use Rattle.pef_words.proofs.Laws.Refusals.{first_among-here, first_among-next}
use Rattle.pef_views.specs.Container.{section_refusal}
use Rattle.pef_views.proofs.container.test_sections.Goals as goal

pub loop-i-preserved : goal.loop-i-preserved
loop-i-preserved c =
    let under : c.loop-i.i < c.args.header.section_count = omega arith in
    sym (first_among-next (section_refusal c.args.cut.bytes.now c.args.header) _ _ under (sym c.in_ok-test_section_at.ensures)) ∙ c.loop-i.invariant

pub returns-in_err-test_section_at : goal.returns-in_err-test_section_at
returns-in_err-test_section_at c =
    let under : c.loop-i.i < c.args.header.section_count = omega arith in
    let p = err_from_is_err_and c.from_residual.result c.from_residual.ensures.1 in
    rw (p.1, p.2) (sym (first_among-here (section_refusal c.args.cut.bytes.now c.args.header) _ _ _ under (sym c.in_err-test_section_at.ensures)) ∙ c.loop-i.invariant)
