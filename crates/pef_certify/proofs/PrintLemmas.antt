-- Certificates of the sections of a script can be printed.
use Rattle.std.proofs.Common.{ℕ, ◌+◌, ◌^◌, ◌≤◌, List, [], ◌∷◌, length, sym, subst, arith}
use Rattle.std.specs.List.{AllByRecursion}
use Rattle.pef_cert.specs.Certified.{Certified}
use Rattle.pef_cert.specs.Text.Printed.{Printable}
use Rattle.pef_cert.proofs.Laws.{valid_prints}
use Rattle.pef_script.specs.Script.{DescribedScript, DescribedSection}
use Rattle.pef_script.specs.WellFormed.{ScriptHolds, SectionHolds}
use Rattle.pef_write.specs.Linked.{AreCertified, AreLinkCertificates}

-- .. those of some sections, numbered from a number on
sections_print : (sections imports k : ℕ) (each : List DescribedSection) (certificates : List Certified) → AllByRecursion (SectionHolds sections imports) each → AreCertified k each certificates → k + length each ≤ 2 ^ 32 → AllByRecursion Printable certificates
sections_print sections imports k [] [] hold are few = tt
sections_print sections imports k [] (c ∷ certificates) hold are few = absurd are
sections_print sections imports k (s ∷ each) [] hold are few = absurd are
sections_print sections imports k (s ∷ each) (c ∷ certificates) hold are few =
    let own = are.0.section in
    (valid_prints s.fixups c hold.0.fixups are.0.valid (omega (arith, own, few)), sections_print sections imports (k + 1) each certificates hold.1 are.1 (omega (arith, few)))

-- .. those of a script
pub script_print : (script : DescribedScript) (certificates : List Certified) → ScriptHolds script → AreCertified 0 script.sections certificates → AllByRecursion Printable certificates
script_print script certificates holds are =
    let few = holds.sections.count in
    sections_print (length script.sections) (length script.imports) 0 script.sections certificates holds.sections.each are (omega (arith, few))

-- .. those of a link
pub certificates_print : (script : DescribedScript) (certificates : List Certified) → AreLinkCertificates script certificates → AllByRecursion Printable certificates
certificates_print script certificates are =
    let linked = are.certified.linked in
    subst (AllByRecursion Printable) (sym are.certified.certificates) (script_print script linked.certificates linked.holds linked.certified)
