-- One more section has a certificate, and at the end all have.
use Rattle.std.proofs.Common.{◌≡◌, ◌∙◌, ◌+◌, ◌++◌, ◌∷◌, [], List, ap, arith, subst, sym, take}
use Rattle.std.proofs.lemmas.List.{take_all}
use Rattle.pef_cert.specs.Certified.{Certified}
use Rattle.pef_plan.specs.Planned.{Planned}
use Rattle.pef_reloc.specs.declared.fixup.Fixup.{Fixup}
use Rattle.pef_script.specs.Script.{DescribedScript, DescribedSection}
use Rattle.pef_write.specs.Linked.{AreCertified, ArePlanned, IsCertified}
use Rattle.pef_write.proofs.CertificateLemmas.{certified_more, planned_more}
use Rattle.pef_write.proofs.LinkLemmas.{are_link_certificates}
use Rattle.pef_write.proofs.linking.link_certificates.Goals as goal

pub loop-k-preserved : goal.loop-k-preserved
loop-k-preserved c =
    let at = c.loop-k in
    let section = c.section-item.result in
    let certificate = c.in_ok-certificate.certificate in
    let fixups : c.deref.result.now ≡ section.fixups = c.deref.ensures.value ∙ ap (λ (s : DescribedSection). s.fixups) c.section.view_is in
    let is : IsCertified at.k c.deref.result.now certificate = record { section = c.in_ok-certificate.ensures.section; valid = c.in_ok-certificate.ensures.valid; exact = c.in_ok-certificate.ensures.exact } in
    let is = subst (λ (fs : List Fixup). IsCertified at.k fs certificate) fixups is in
    let pushed = c.in_ok-push.ensures.items ∙ ap (λ (x : Certified). at.certificates.items ++ x ∷ []) c.in_ok-packed.ensures in
    let planned = subst (λ (fs : List Fixup). Planned fs certificate.program) fixups c.in_ok-certificate.ensures.planned in
    record {
      certified = subst (AreCertified 0 (take (at.k + 1) c.deref-section-items.result.now)) (sym pushed) (certified_more c.deref-section-items.result.now at.k section _ at.certificates.items certificate c.loop-k-test.true c.section-item.is is at.invariant.certified);
      planned = subst (ArePlanned (take (at.k + 1) c.deref-section-items.result.now)) (sym pushed) (planned_more c.deref-section-items.result.now at.k section _ at.certificates.items certificate c.loop-k-test.true c.section-item.is planned at.invariant.planned);
    }

pub returns : goal.returns
returns c =
    let items = c.deref-section-items.result.now in
    let are = c.deref-section-items.ensures.value ∙ ap (λ (s : DescribedScript). s.sections) c.parts.ensures.parts in
    let whole : take c.loop-k.k items ≡ c.args.script.now.sections = take_all c.loop-k.k items (omega (arith, c.loop-k-test.false)) ∙ are in
    are_link_certificates c.args.script.now c.loop-k.certificates.items c.parts.ensures.holds (subst (λ (sections : List DescribedSection). AreCertified 0 sections c.loop-k.certificates.items) whole c.loop-k.invariant.certified) (subst (λ (sections : List DescribedSection). ArePlanned sections c.loop-k.certificates.items) whole c.loop-k.invariant.planned)
