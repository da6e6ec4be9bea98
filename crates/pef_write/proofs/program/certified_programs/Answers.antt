-- One more section has a certificate with an encoded program, and at the end all have.
use Rattle.std.proofs.Common.{◌≡◌, ◌∙◌, ◌++◌, [], ◌∷◌, List, length, map, ap, subst, sym}
use Rattle.std.specs.List.{AllByRecursion}
use Rattle.pef_cert.specs.Certified.{Certified}
use Rattle.pef_plan.specs.Planned.{Planned}
use Rattle.pef_reloc.specs.declared.fixup.Fixup.{Fixup}
use Rattle.pef_reloc.specs.Instrs.{program_length, spelled}
use Rattle.pef_script.specs.Script.{DescribedScript, DescribedSection}
use Rattle.pef_script.specs.WellFormed.{SectionHolds}
use Rattle.pef_write.specs.Linked.{IsCertified}
use Rattle.pef_write.proofs.CertificateLemmas.{certified_short, encoded_more}
use Rattle.pef_write.proofs.program.certified_programs.Goals as goal

pub push-requires-clause-short : goal.push-requires-clause-short
push-requires-clause-short c =
    let k = c.loop-k.k in
    let s = c.args.script.now in
    let section = c.section-item.result in
    let are = c.deref-section-items.ensures.value ∙ ap (λ (s : DescribedScript). s.sections) c.parts.ensures.parts in
    let hold = subst (AllByRecursion (SectionHolds (length s.sections) (length s.imports))) (sym are) c.parts.ensures.holds.sections.each in
    let fixups : c.deref.result.now ≡ section.fixups = c.deref.ensures.value ∙ ap (λ (s : DescribedSection). s.fixups) c.section.view_is in
    let is : IsCertified k c.deref.result.now c.in_ok-certificate.certificate = record { section = c.in_ok-certificate.ensures.section; valid = c.in_ok-certificate.ensures.valid; exact = c.in_ok-certificate.ensures.exact } in
    rw (c.deref-in-loop-k.ensures.value ∙ ap (λ (x : Certified). x.program) c.certificate.view_is)
    (certified_short (length s.sections) (length s.imports) k c.deref-section-items.result.now k section _ c.in_ok-certificate.certificate hold c.loop-k-test.true c.section-item.is (subst (λ (fs : List Fixup). IsCertified k fs c.in_ok-certificate.certificate) fixups is))

pub loop-k-preserved : goal.loop-k-preserved
loop-k-preserved c =
    let at = c.loop-k in
    let section = c.section-item.result in
    let fixups : c.deref.result.now ≡ section.fixups = c.deref.ensures.value ∙ ap (λ (s : DescribedSection). s.fixups) c.section.view_is in
    let is : IsCertified at.k c.deref.result.now c.in_ok-certificate.certificate = record { section = c.in_ok-certificate.ensures.section; valid = c.in_ok-certificate.ensures.valid; exact = c.in_ok-certificate.ensures.exact } in
    let is = subst (λ (fs : List Fixup). IsCertified at.k fs c.in_ok-certificate.certificate) fixups is in
    let value = c.deref-in-loop-k.ensures.value ∙ ap (λ (x : Certified). x.program) c.certificate.view_is in
    encoded_more c.deref-section-items.result.now at.k section _ at.certificates.items _ _ _ at.encoded.lengths.items _ c.in_ok-certificate.certificate c.loop-k-test.true c.section-item.is is (subst (λ (fs : List Fixup). Planned fs c.in_ok-certificate.certificate.program) fixups c.in_ok-certificate.ensures.planned) c.in_ok-push-2.ensures.items
    (c.in_ok-push.ensures.programs ∙ ap (λ p. map (λ p. p.items) at.encoded.programs.items ++ spelled p ∷ []) value)
    (c.in_ok-push.ensures.lengths ∙ ap (λ p. at.encoded.lengths.items ++ program_length p ∷ []) value) at.invariant
