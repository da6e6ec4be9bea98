-- The program of one more section is encoded, and at the end all are.
use Rattle.std.proofs.Common.{◌≡◌, ◌∙◌, ◌++◌, [], ◌∷◌, List, length, map, refl, ap, subst, sym}
use Rattle.std.specs.List.{AllByRecursion}
use Rattle.pef_plan.specs.Planned.{Planned}
use Rattle.pef_reloc.specs.declared.fixup.Fixup.{Fixup}
use Rattle.pef_reloc.specs.declared.instr.Instr.{Instr}
use Rattle.pef_reloc.specs.Instrs.{program_length, spelled}
use Rattle.pef_reloc.specs.Steps.{Least}
use Rattle.pef_script.specs.Script.{DescribedScript, DescribedSection}
use Rattle.pef_script.specs.WellFormed.{SectionHolds}
use Rattle.pef_write.proofs.CertificateLemmas.{certified_short, encoded_more, some_certified}
use Rattle.pef_write.proofs.program.programs.Goals as goal

pub push-requires-clause-short : goal.push-requires-clause-short
push-requires-clause-short c =
    let k = c.loop-section.section-index in
    let s = c.args.script.now in
    let section = c.section-item.result in
    let program = c.in_ok-program.program.items in
    let are = c.deref-section-items.ensures.value ∙ ap (λ (s : DescribedScript). s.sections) c.parts.ensures.parts in
    let hold = subst (AllByRecursion (SectionHolds (length s.sections) (length s.imports))) (sym are) c.parts.ensures.holds.sections.each in
    let fixups : c.deref.result.now ≡ section.fixups = c.deref.ensures.value ∙ ap (λ (s : DescribedSection). s.fixups) c.section.view_is in
    let least : Least section.fixups program = subst (λ (fs : List Fixup). Least fs program) fixups c.in_ok-program.ensures.least in
    let own = some_certified (length s.sections) (length s.imports) k c.deref-section-items.result.now k section _ program hold c.loop-section-test.true c.section-item.is least in
    rw (c.deref-in-loop-section.ensures.value, ← own.1)
    (certified_short (length s.sections) (length s.imports) k c.deref-section-items.result.now k section _ own.0 hold c.loop-section-test.true c.section-item.is own.2)

pub loop-section-preserved : goal.loop-section-preserved
loop-section-preserved c =
    let at = c.loop-section in
    let k = at.section-index in
    let s = c.args.script.now in
    let section = c.section-item.result in
    let program = c.in_ok-program.program.items in
    let are = c.deref-section-items.ensures.value ∙ ap (λ (s : DescribedScript). s.sections) c.parts.ensures.parts in
    let hold = subst (AllByRecursion (SectionHolds (length s.sections) (length s.imports))) (sym are) c.parts.ensures.holds.sections.each in
    let fixups : c.deref.result.now ≡ section.fixups = c.deref.ensures.value ∙ ap (λ (s : DescribedSection). s.fixups) c.section.view_is in
    let least : Least section.fixups program = subst (λ (fs : List Fixup). Least fs program) fixups c.in_ok-program.ensures.least in
    let own = some_certified (length s.sections) (length s.imports) k c.deref-section-items.result.now k section _ program hold c.loop-section-test.true c.section-item.is least in
    let value = c.deref-in-loop-section.ensures.value ∙ sym own.1 in (
      at.invariant.0 ++ own.0 ∷ [],
      encoded_more c.deref-section-items.result.now k section _ at.invariant.0 _ _ _ at.encoded.lengths.items _ own.0 c.loop-section-test.true c.section-item.is own.2
          (subst (λ (instrs : List Instr). Planned section.fixups instrs) (sym own.1) (subst (λ (fs : List Fixup). Planned fs program) fixups c.in_ok-program.ensures.planned)) refl
          (c.in_ok-push.ensures.programs ∙ ap (λ p. map (λ p. p.items) at.encoded.programs.items ++ spelled p ∷ []) value)
          (c.in_ok-push.ensures.lengths ∙ ap (λ p. at.encoded.lengths.items ++ program_length p ∷ []) value) at.invariant.1,
    )
