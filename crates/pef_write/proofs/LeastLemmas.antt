-- The relocation programs of a linked container are least ones.
use Rattle.std.proofs.Common.{◌≡◌, ◌≢◌, ◌∙◌, ℕ, zero, suc, ◌+◌, ◌<◌, ◌==◌, List, [], ◌∷◌, ◌++◌, Some, option_map, slice_get, length, append-nil, eq-eqb, refl, sym, ap, ap₂, subst, arith}
use Rattle.std.specs.List.{filter}
use Rattle.std.proofs.lemmas.Bool.{ne_eqb}
use Rattle.std.proofs.lemmas.List.Elements.{filter-append}
use Rattle.std.proofs.lemmas.Option.{slice_get-map}
use Rattle.pef_cert.specs.Certified.{Certified}
use Rattle.pef_reloc.specs.declared.fixup.Fixup.{Fixup}
use Rattle.pef_reloc.specs.declared.instr.Instr.{Instr}
use Rattle.pef_reloc.specs.Instrs.{program_length}
use Rattle.pef_script.specs.Script.{DescribedScript, DescribedSection}
use Rattle.pef_script.specs.WellFormed.{SectionHolds}
use Rattle.pef_words.proofs.Laws.Lists.{all-get}
use Rattle.pef_write.specs.LeastPrograms.{HasLeastProgram}
use Rattle.pef_write.specs.Linked.{AreCertified, IsCertified, IsLinked, LinkedContainer, program_of, programs_from}
use Rattle.pef_write.specs.Loaders.{ProgramEntry}
use Rattle.pef_write.proofs.CertificateLemmas.{certified_least}

-- the programs for section k, among those written for sections from a number on
abbrev own_of : ℕ → List ProgramEntry → List ProgramEntry
own_of k programs = filter (λ p. p.section == k) programs

-- a program of its own section, and of another
own_same : (k : ℕ) (fixups : List Fixup) (instrs : List Instr) → own_of k (program_of k fixups instrs) ≡ program_of k fixups instrs
own_same k [] instrs = refl
own_same k (f ∷ fixups) instrs = rw (eq-eqb k k refl) refl

own_other : (k j : ℕ) (fixups : List Fixup) (instrs : List Instr) → j ≢ k → own_of k (program_of j fixups instrs) ≡ []
own_other k j [] instrs other = refl
own_other k j (f ∷ fixups) instrs other = rw (ne_eqb j k other) refl

-- sections past a number have no program for it
own_past : (k from : ℕ) (sections : List DescribedSection) (programs : List (List Instr)) → k < from → own_of k (programs_from from sections programs) ≡ []
own_past k from [] programs past = refl
own_past k from (s ∷ sections) [] past = refl
own_past k from (s ∷ sections) (instrs ∷ programs) past =
    filter-append (λ (p : ProgramEntry). p.section == k) (program_of from s.fixups instrs) (programs_from (from + 1) sections programs)
    ∙ ap₂ (λ a b. a ++ b) (own_other k from s.fixups instrs (λ same. absurd (omega (arith, same, past)))) (own_past k (from + 1) sections programs (omega (arith, past)))

-- the program written for a section is its program
own_is : (from i k : ℕ) (sections : List DescribedSection) (programs : List (List Instr)) (section : DescribedSection) (instrs : List Instr) → k ≡ from + i → slice_get sections i ≡ Some section → slice_get programs i ≡ Some instrs
    → own_of k (programs_from from sections programs) ≡ program_of k section.fixups instrs
own_is from i k [] programs section instrs at there own = absurd (cc)
own_is from i k (s ∷ sections) [] section instrs at there own = absurd (cc)
own_is from zero k (s ∷ sections) (first ∷ programs) section instrs at there own =
    let here : from ≡ k = omega (arith, at) in
    let same : s ≡ section = cc in
    let program : first ≡ instrs = cc in
    filter-append (λ (p : ProgramEntry). p.section == k) (program_of from s.fixups first) (programs_from (from + 1) sections programs)
    ∙ ap₂ (λ a b. a ++ b) (ap (λ n. own_of k (program_of n s.fixups first)) here ∙ own_same k s.fixups first) (own_past k (from + 1) sections programs (omega (arith, here)))
    ∙ append-nil (program_of k s.fixups first)
    ∙ ap₂ (λ (t : DescribedSection) xs. program_of k t.fixups xs) same program
own_is from (suc i) k (s ∷ sections) (first ∷ programs) section instrs at there own =
    filter-append (λ (p : ProgramEntry). p.section == k) (program_of from s.fixups first) (programs_from (from + 1) sections programs)
    ∙ ap₂ (λ a b. a ++ b) (own_other k from s.fixups first (λ same. absurd (omega (arith, same, at)))) (own_is (from + 1) i k sections programs section instrs (omega (arith, at)) there own)

-- the certificate of a section
pub record CertificateAt (from i : ℕ) (certificates : List Certified) (section : DescribedSection) : Type 0 where
  pub certificate : Certified
  pub there : slice_get certificates i ≡ Some certificate
  pub is : IsCertified (from + i) section.fixups certificate

pub certificate_at : (from i : ℕ) (sections : List DescribedSection) (certificates : List Certified) (section : DescribedSection) → AreCertified from sections certificates → slice_get sections i ≡ Some section → CertificateAt from i certificates section
certificate_at from i [] certificates section are there = absurd (cc)
certificate_at from i (s ∷ sections) [] section are there = absurd are
certificate_at from zero (s ∷ sections) (c ∷ certificates) section are there =
    let same : s ≡ section = cc in
    let at : from ≡ from + 0 = omega arith in
    record { certificate = c; there = refl; is = subst (λ n. IsCertified n section.fixups c) at (subst (λ (t : DescribedSection). IsCertified from t.fixups c) same are.0) }
certificate_at from (suc i) (s ∷ sections) (c ∷ certificates) section are there =
    let later = certificate_at (from + 1) i sections certificates section are.1 there in
    let at : from + 1 + i ≡ from + suc i = omega arith in
    record { certificate = later.certificate; there = later.there; is = subst (λ n. IsCertified n section.fixups later.certificate) at later.is }

pub least_program : (s : DescribedScript) (l : LinkedContainer) (linked : IsLinked s l) (k : ℕ) (section : DescribedSection) → slice_get s.sections k ≡ Some section → HasLeastProgram s l linked k section
least_program s l linked k section there =
    let found = certificate_at 0 k s.sections linked.certificates section linked.certified there in
    let at : 0 + k ≡ k = omega arith in
    let is : IsCertified k section.fixups found.certificate = subst (λ n. IsCertified n section.fixups found.certificate) at found.is in
    let holds = all-get (SectionHolds (length s.sections) (length s.imports)) s.sections k section linked.holds.sections.each there in
    let program : slice_get linked.programs k ≡ Some found.certificate.program = ap (λ programs. slice_get programs k) linked.programs_are ∙ slice_get-map (λ (c : Certified). c.program) linked.certificates k ∙ ap (option_map (λ (c : Certified). c.program)) found.there in
    record {
      certificate = found.certificate;
      there = found.there;
      certified = is;
      least = certified_least (length s.sections) (length s.imports) k section found.certificate holds is;
      length_is = ap (λ lengths. slice_get lengths k) linked.lengths ∙ slice_get-map program_length linked.programs k ∙ ap (option_map program_length) program;
      written = own_is 0 k k s.sections linked.programs section found.certificate.program (sym at) there program;
    }
