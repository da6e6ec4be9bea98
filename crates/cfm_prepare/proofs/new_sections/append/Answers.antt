-- One section more.
use Rattle.std.proofs.Common.{◌++◌, [], ◌∷◌, ap, ◌∙◌}
use Rattle.pef_views.specs.Views.{contained, seen}
use Rattle.cfm_prepare.specs.NewSections.{sections_from}
use Rattle.cfm_prepare.proofs.NewLemmas.{section-is, sections-next}
use Rattle.cfm_prepare.specs.declared.new_sections.NewSection.{NewSection}
use Rattle.cfm_prepare.proofs.new_sections.append.Goals as goal

pub loop-i-preserved : goal.loop-i-preserved
loop-i-preserved c =
    let at = c.loop-i in
    let container = contained c.args.container.now in
    let g = c.args.granule.bytes in
    let p = c.args.fragment in
    let n = c.from-count.result in
    let is = section-is g p container at.i c.taken.result c.step.result (seen c.in-Some.section) c.in-Some.ensures.value c.taken.ensures c.step.ensures in
    sections-next g p container at.i n at.sections.items c.push.new.self.items (c.args.sections.now.items ++ sections_from g p container 0 n) c.loop-i-test.true (c.in_ok-push.ensures.items ∙ ap (λ (x : NewSection). at.sections.items ++ x ∷ []) is) at.invariant
