-- For a script there is one container that the linker may give, and its certificates have the programs of that container.
use Rattle.std.proofs.Common.{◌≡◌, ◌∙◌, List, [], ◌∷◌, map, refl, sym, ap, ap₂, subst}
use Rattle.pef_cert.specs.Certified.{Certified}
use Rattle.pef_plan.proofs.Laws.{one_planned}
use Rattle.pef_reloc.specs.declared.instr.Instr.{Instr}
use Rattle.pef_reloc.specs.Instrs.{program_length}
use Rattle.pef_script.specs.Script.{DescribedScript, DescribedSection}
use Rattle.pef_write.specs.Linked.{AreLinkCertificates, ArePlanned, IsCertifiedLink, IsLinkedContainer, LinkedContainer, linked_bytes}

abbrev programs_of : List Certified → List (List Instr)
programs_of certificates = map (λ c. c.program) certificates

same_programs : (sections : List DescribedSection) (cs ds : List Certified) → ArePlanned sections cs → ArePlanned sections ds → programs_of cs ≡ programs_of ds
same_programs [] [] [] one two = refl
same_programs [] [] (d ∷ ds) one two = absurd two
same_programs [] (c ∷ cs) ds one two = absurd one
same_programs (s ∷ sections) [] ds one two = absurd one
same_programs (s ∷ sections) (c ∷ cs) [] one two = absurd two
same_programs (s ∷ sections) (c ∷ cs) (d ∷ ds) one two =
    ap₂ (λ x xs. x ∷ xs) (one_planned s.fixups c.program d.program one.0 two.0) (same_programs sections cs ds one.1 two.1)

-- the programs of a container
programs_are : (s : DescribedScript) (l : LinkedContainer) (is : IsLinkedContainer s l) → is.certified.linked.programs ≡ programs_of is.certificates
programs_are s l is = is.certified.linked.programs_are ∙ ap programs_of (sym is.certified.certificates)

pub one_container : (s : DescribedScript) (a b : LinkedContainer) → IsLinkedContainer s a → IsLinkedContainer s b → a ≡ b
one_container s a b one two =
    let same = programs_are s a one ∙ same_programs s.sections one.certificates two.certificates one.certified.planned two.certified.planned ∙ sym (programs_are s b two) in
    let bytes = one.certified.linked.bytes ∙ ap (linked_bytes s) same ∙ sym two.certified.linked.bytes in
    let lengths = one.certified.linked.lengths ∙ ap (map program_length) same ∙ sym two.certified.linked.lengths in
    ap₂ (λ bs ns. record { bytes = bs; lengths = ns }) bytes lengths

pub own_certificates : (s : DescribedScript) (l : LinkedContainer) (certificates : List Certified) → IsLinkedContainer s l → AreLinkCertificates s certificates → IsCertifiedLink s (record { container = l; certificates = certificates })
own_certificates s l certificates is are =
    let same = one_container s are.container l (record { certificates = certificates; certified = are.certified }) is in
    subst (λ (x : LinkedContainer). IsCertifiedLink s (record { container = x; certificates = certificates })) same are.certified
