-- `check` answers yes for each certificate of a script.
use Rattle.std.proofs.Common.{◌≡◌, ℕ, ◌+◌, ◌==◌, suc, true, false, List, [], ◌∷◌, Result, Ok, Err, length, map, refl, sym, ap, ap₂, subst, ◌∙◌, eq-eqb}
use Rattle.pef_cert.specs.Certified.{Certified}
use Rattle.pef_cert.specs.Text.Grammar.{certificates_of}
use Rattle.pef_cert.specs.Text.Printed.{certificates_text}
use Rattle.pef_cert.proofs.Laws.{reads_back}
use Rattle.pef_certify.proofs.Laws.{script_print}
use Rattle.pef_ports.specs.Ports.{FilesPort, Reads}
use Rattle.pef_reloc.specs.Instrs.{program_length}
use Rattle.pef_script.specs.Text.Grammar as grammar
use Rattle.pef_script.specs.Text.Grammar.{script_of}
use Rattle.pef_script.specs.Script.{DescribedScript, DescribedSection}
use Rattle.pef_script.specs.WellFormed.{ScriptHolds}
use Rattle.pef_write.specs.Linked.{AreCertified, CertifiedContainer, IsCertifiedLink, IsLinkedContainer, LinkedContainer}
use Rattle.pef_tool.specs.Check.{AreVerdicts, Judges, Texts, are_numbered, match_sections}
use Rattle.std.proofs.lemmas.Bool.{and_from}
use Rattle.pef_tool.specs.Distances.{CertifiesFile, IsYesToAll}
use Rattle.pef_tool.specs.Link.{LinksFile}
use Rattle.pef_tool.specs.declared.check.Verdict.{Verdict}
use Rattle.pef_tool.specs.declared.check.Verdict.TheVariants.{Yes, No}
use Rattle.pef_cert.specs.declared.text.fault.CertFault.TheVariants as cert_fault
use Rattle.pef_faults.specs.Faults.{fault_number}
use Rattle.pef_faults.specs.declared.fault.Fault.{Fault}
use Rattle.pef_faults.specs.declared.fault.Fault.TheVariants.{Script, Listing, Certificate, SectionsDiffer, Input, Prepare, Fragment, Untold, StoreFull, Stub, Unreadable, Unwritable, OutOfMemory}
use Rattle.pef_script.specs.declared.text.fault.ScriptFault.TheVariants as script_fault

-- a file whose script was linked
pub files_linked : {F : Type 0} {port : FilesPort F} {before after : F} {path text : List ℕ} {l : LinkedContainer} (given : List ℕ) (script : DescribedScript)
    → Reads port before after path (Ok text) → given ≡ text → script_of given ≡ Ok script → IsLinkedContainer script l → LinksFile port before after path l
files_linked {F} {port} {before} {after} {path} {text} {l} given script read same reads linked = record {
  text = text;
  read = read;
  script = script;
  is_script = ap script_of (sym same) ∙ reads;
  linked = linked;
}

-- .. with certificates
pub file_certified : {F : Type 0} {port : FilesPort F} {before after : F} {path text : List ℕ} {l : CertifiedContainer} (given : List ℕ) (script : DescribedScript)
    → Reads port before after path (Ok text) → given ≡ text → script_of given ≡ Ok script → IsCertifiedLink script l → CertifiesFile port before after path l.certificates
file_certified {F} {port} {before} {after} {path} {text} {l} given script read same reads linked = record {
  text = text;
  read = read;
  script = script;
  is_script = ap script_of (sym same) ∙ reads;
  container = l.container;
  linked = linked;
}

-- certificates of the sections of a script are numbered as these, and there are as many
certified_numbered : (k : ℕ) (sections : List DescribedSection) (certificates : List Certified) → AreCertified k sections certificates → are_numbered k certificates ≡ true
certified_numbered k [] [] are = refl
certified_numbered k [] (c ∷ certificates) are = absurd are
certified_numbered k (s ∷ sections) [] are = absurd are
certified_numbered k (s ∷ sections) (c ∷ certificates) are = and_from (c.section == k) (are_numbered (k + 1) certificates) (eq-eqb c.section k are.0.section) (certified_numbered (k + 1) sections certificates are.1)

certified_count : (k : ℕ) (sections : List DescribedSection) (certificates : List Certified) → AreCertified k sections certificates → length certificates ≡ length sections
certified_count k [] [] are = refl
certified_count k [] (c ∷ certificates) are = absurd are
certified_count k (s ∷ sections) [] are = absurd are
certified_count k (s ∷ sections) (c ∷ certificates) are = ap suc (certified_count (k + 1) sections certificates are.1)

certificates_match : (script : DescribedScript) (certificates : List Certified) → AreCertified 0 script.sections certificates → match_sections script certificates ≡ true
certificates_match script certificates are =
    and_from (length certificates == length script.sections) (are_numbered 0 certificates)
    (eq-eqb (length certificates) (length script.sections) (certified_count 0 script.sections certificates are))
    (certified_numbered 0 script.sections certificates are)

-- each verdict on them is a yes
all_yes : (k : ℕ) (sections : List DescribedSection) (certificates : List Certified) (verdicts : List Verdict) → AreCertified k sections certificates → AreVerdicts sections certificates verdicts → verdicts ≡ map (λ c. Yes (program_length c.program)) certificates
all_yes k [] [] [] are said = refl
all_yes k [] [] (v ∷ verdicts) are said = absurd said
all_yes k [] (c ∷ certificates) verdicts are said = absurd are
all_yes k (s ∷ sections) [] verdicts are said = absurd are
all_yes k (s ∷ sections) (c ∷ certificates) [] are said = absurd said
all_yes k (s ∷ sections) (c ∷ certificates) (Yes halfwords ∷ verdicts) are said = ap₂ (λ (v : Verdict) vs. v ∷ vs) (ap Yes said.0.1) (all_yes (k + 1) sections certificates verdicts are.1 said.1)
all_yes k (s ∷ sections) (c ∷ certificates) (No ∷ verdicts) are said = absurd (said.0 are.0.valid)

-- a result can be of only one script, and of only one list of certificates
same_script : (r : Result DescribedScript grammar.LineRefusal) (s t : DescribedScript) → r ≡ Ok s → r ≡ Ok t → s ≡ t
same_script r s t one two = let both = sym one ∙ two in cc

same_certificates : (r : Result (List Certified) ℕ) (cs ds : List Certified) → r ≡ Ok cs → r ≡ Ok ds → cs ≡ ds
same_certificates r cs ds one two = let both = sym one ∙ two in cc

-- the result for two texts: the first is a script, and the second is the text of its certificates
all_accepted : (texts : Texts) (script : DescribedScript) (certificates : List Certified) (judged : Result (List Verdict) Fault)
    → script_of texts.script ≡ Ok script → ScriptHolds script → AreCertified 0 script.sections certificates → texts.certificates ≡ certificates_text certificates → Judges texts judged → IsYesToAll certificates judged
unfolding fault_number
all_accepted texts script certificates judged is holds are printed judges = by judged judges
  where
    reads : certificates_of texts.certificates ≡ Ok certificates
    reads = ap certificates_of printed ∙ reads_back certificates (script_print script certificates holds are)

    by : (judged : Result (List Verdict) Fault) → Judges texts judged → IsYesToAll certificates judged
    by (Ok verdicts) judged =
        let one = same_script (script_of texts.script) judged.checked.script script judged.has.script is in
        let two = same_certificates (certificates_of texts.certificates) judged.checked.certificates certificates judged.has.certificates reads in
        let first = subst (λ (s : DescribedScript). AreVerdicts s.sections judged.checked.certificates verdicts) one judged.verdicts_are in
        all_yes 0 script.sections certificates verdicts are (subst (λ (cs : List Certified). AreVerdicts script.sections cs verdicts) two first)
    by (Err (Script (script_fault.Refused what line word earlier) told)) refused = let wrong = sym is ∙ refused.1 in absurd (cc)
    by (Err (Script script_fault.OutOfMemory told)) any = refl
    by (Err (Certificate (cert_fault.BadCertificate line))) refuses = let wrong = sym reads ∙ refuses.refused in absurd (cc)
    by (Err (Certificate cert_fault.OutOfMemory)) any = refl
    by (Err SectionsDiffer) judged =
        let one = same_script (script_of texts.script) judged.checked.script script judged.has.script is in
        let two = same_certificates (certificates_of texts.certificates) judged.checked.certificates certificates judged.has.certificates reads in
        let wrong : true ≡ false = sym (certificates_match script certificates are) ∙ (ap₂ match_sections (sym one) (sym two) ∙ judged.differ) in
        absurd (cc)
    by (Err OutOfMemory) any = refl
    by (Err (Listing fault)) never = absurd never
    by (Err (Input fault)) never = absurd never
    by (Err (Prepare fault)) never = absurd never
    by (Err (Fragment fault)) never = absurd never
    by (Err (Untold path why)) never = absurd never
    by (Err StoreFull) never = absurd never
    by (Err (Stub f)) never = absurd never
    by (Err (Unreadable path reason)) never = absurd never
    by (Err (Unwritable path reason)) never = absurd never

-- .. which `link` gave
pub accepted : (texts : Texts) (script : DescribedScript) (l : CertifiedContainer) (judged : Result (List Verdict) Fault)
    → script_of texts.script ≡ Ok script → IsCertifiedLink script l → texts.certificates ≡ certificates_text l.certificates → Judges texts judged → IsYesToAll l.certificates judged
accepted texts script l judged is linked printed judges =
    let are = subst (AreCertified 0 script.sections) (sym linked.certificates) linked.linked.certified in
    all_accepted texts script l.certificates judged is linked.linked.holds are printed judges
