-- For every script there is a linked container.
use Rattle.std.proofs.Common.{ℕ, ◌+◌, List, [], ◌∷◌, length, map, refl}
use Rattle.std.specs.List.{AllByRecursion}
use Rattle.pef_cert.specs.Certified.{Certified}
use Rattle.pef_plan.proofs.Laws.{some_certificate}
use Rattle.pef_reloc.specs.Instrs.{program_length}
use Rattle.pef_script.specs.Script.{DescribedScript, DescribedSection}
use Rattle.pef_script.specs.WellFormed.{ScriptHolds, SectionHolds}
use Rattle.pef_write.specs.Linked.{AreCertified, IsLinked, LinkedContainer, linked_bytes}
use Rattle.pef_write.proofs.CertificateLemmas.{certified_programs}

-- there are certificates for sections, numbered from a number on
some_certificates : (n j k : ℕ) (sections : List DescribedSection) → AllByRecursion (SectionHolds n j) sections → (certificates : List Certified) × AreCertified k sections certificates
some_certificates n j k [] holds = ([], tt)
some_certificates n j k (s ∷ sections) holds =
    let first = some_certificate s.fixups k holds.0.fixups in
    let others = some_certificates n j (k + 1) sections holds.1 in
    (first.0 ∷ others.0, (record { section = first.1; valid = first.2; exact = first.3 }, others.1))

pub some_link : (s : DescribedScript) → ScriptHolds s → (l : LinkedContainer) × IsLinked s l
some_link s holds =
    let certificates = some_certificates (length s.sections) (length s.imports) 0 s.sections holds.sections.each in
    let programs = map (λ (c : Certified). c.program) certificates.0 in (
      record { bytes = linked_bytes s programs; lengths = map program_length programs },
      record {
        holds = holds;
        programs = programs;
        are = certified_programs (length s.sections) (length s.imports) 0 s.sections certificates.0 holds.sections.each certificates.1;
        bytes = refl;
        lengths = refl;
        certificates = certificates.0;
        certified = certificates.1;
        programs_are = refl;
      },
    )
