-- The answer of `check SCRIPT CERT` (README). It reads SCRIPT and then CERT, before it parses either, and reports for
-- each section whether its certificate is valid for the section's fixups. It makes no other call on files.
use Rattle.std.specs.Prelude.{◌≡◌, ◌⊎◌, ℕ, ◌+◌, ◌==◌, ⊤, Bool, true, false, ◌&&◌, List, [], ◌∷◌, ◌++◌, Result, Ok, Err, codes, decimal, length}
use Rattle.pef_cert.specs.Certified.{Certified}
use Rattle.pef_cert.specs.Valid.{Valid}
use Rattle.pef_cert.specs.Text.Grammar.{certificates_of}
use Rattle.pef_ports.specs.Ports.{FilesPort, Reads}
use Rattle.pef_ports.specs.declared.ports.FileFault.{FileFault}
use Rattle.pef_ports.specs.declared.ports.FileFault.TheVariants as file_fault
use Rattle.pef_reloc.specs.Instrs.{program_length}
use Rattle.pef_reloc.specs.declared.fixup.Fixup.{Fixup}
use Rattle.pef_script.specs.Text.Grammar.{script_of}
use Rattle.pef_script.specs.Script.{DescribedScript, DescribedSection}
use Rattle.pef_tool.specs.Answers.Answers.{Answer}
use Rattle.pef_tool.specs.Answers.Faults.{fault_answer}
use Rattle.pef_tool.specs.declared.answers.outcome.Outcome.{Outcome}
use Rattle.pef_tool.specs.declared.answers.outcome.Outcome.TheVariants.{Done, SaidNo}
use Rattle.pef_tool.specs.declared.check.Verdict.{Verdict}
use Rattle.pef_tool.specs.declared.check.Verdict.TheVariants.{Yes, No}
use Rattle.pef_cert.specs.declared.text.fault.CertFault.{CertFault}
use Rattle.pef_cert.specs.declared.text.fault.CertFault.TheVariants as cert_fault
use Rattle.pef_faults.specs.declared.fault.Fault.{Fault}
use Rattle.pef_faults.specs.declared.fault.Fault.TheVariants.{Certificate, OutOfMemory, Script, SectionsDiffer, Unreadable}
use Rattle.pef_script.specs.Text.Reads.{FailsAs}

-- the verdict on a certificate for some fixups: yes, with its program's length in halfwords, exactly if it is valid
abbrev pub IsVerdict : List Fixup → Certified → Verdict → Type 0
IsVerdict fixups c (Yes halfwords) = Valid fixups c × (halfwords ≡ program_length c.program)
IsVerdict fixups c No = Valid fixups c → ⊥

-- a verdict on each certificate, for the fixups of its section
abbrev pub AreVerdicts : List DescribedSection → List Certified → List Verdict → Type 0
AreVerdicts [] [] [] = ⊤
AreVerdicts (s ∷ sections) (c ∷ certificates) (v ∷ verdicts) = IsVerdict s.fixups c v × AreVerdicts sections certificates verdicts
AreVerdicts _ _ _ = ⊥

-- certificates are for the sections numbered consecutively from a number on, in order
abbrev pub are_numbered : ℕ → List Certified → Bool
are_numbered k [] = true
are_numbered k (c ∷ certificates) = c.section == k && are_numbered (k + 1) certificates

-- there is exactly one certificate for each section of a script, in order
abbrev pub match_sections : DescribedScript → List Certified → Bool
match_sections script certificates = length certificates == length script.sections && are_numbered 0 certificates

-- the texts of SCRIPT and CERT
pub record Texts : Type 0 where
  pub script : List ℕ
  pub certificates : List ℕ

-- the script and the certificates that two texts contain
pub record Checked : Type 0 where
  pub script : DescribedScript
  pub certificates : List Certified

pub record HasChecked (texts : Texts) (c : Checked) : Type 0 where
  pub script : script_of texts.script ≡ Ok c.script
  pub certificates : certificates_of texts.certificates ≡ Ok c.certificates

-- two texts have certificates for the sections of the script, with these verdicts
pub record HasVerdicts (texts : Texts) (verdicts : List Verdict) : Type 0 where
  pub checked : Checked
  pub has : HasChecked texts checked
  pub matches : match_sections checked.script checked.certificates ≡ true
  pub verdicts_are : AreVerdicts checked.script.sections checked.certificates verdicts

-- SCRIPT's text is a script, and CERT's is refused at a line
pub record RefusesCertificates (texts : Texts) (line : ℕ) : Type 0 where
  pub script : DescribedScript
  pub is_script : script_of texts.script ≡ Ok script
  pub refused : certificates_of texts.certificates ≡ Err line

-- both texts are valid, and the certificates are for other sections than the script's
pub record DiffersInSections (texts : Texts) : Type 0 where
  pub checked : Checked
  pub has : HasChecked texts checked
  pub differ : match_sections checked.script checked.certificates ≡ false

-- why certificates aren't read: a line of them is refused, or an allocation failed
abbrev pub RefusesReading : Texts → CertFault → Type 0
RefusesReading texts (cert_fault.BadCertificate line) = RefusesCertificates texts line
RefusesReading texts cert_fault.OutOfMemory = ⊤

-- the result for two texts: verdicts, or the first error of SCRIPT's text, else of CERT's, else that sections differ.
-- Or an allocation failed.
abbrev pub Judges : Texts → Result (List Verdict) Fault → Type 0
Judges texts (Ok verdicts) = HasVerdicts texts verdicts
Judges texts (Err (Script fault told)) = (told.now ≡ texts.script) × FailsAs fault (script_of texts.script)
Judges texts (Err (Certificate fault)) = RefusesReading texts fault
Judges texts (Err SectionsDiffer) = DiffersInSections texts
Judges texts (Err OutOfMemory) = ⊤
Judges texts (Err _) = ⊥

-- SCRIPT was read, and then reading CERT returned this result
pub record ReadsSecond {F : Type 0} (port : FilesPort F) (before after : F) (script cert text : List ℕ) (answer : Result (List ℕ) FileFault) : Type 0 where
  pub between : F
  pub first : Reads port before between script (Ok text)
  pub second : Reads port between after cert answer

-- both files were read, and this is the result for their texts
pub record JudgesFiles {F : Type 0} (port : FilesPort F) (before after : F) (script cert : List ℕ) (judged : Result (List Verdict) Fault) : Type 0 where
  pub texts : Texts
  pub read : ReadsSecond port before after script cert texts.script (Ok texts.certificates)
  pub are : Judges texts judged

-- an allocation failed: before or while SCRIPT was read, or while CERT was read
abbrev pub ReadingLacksMemory : {F : Type 0} → FilesPort F → F → F → List ℕ → List ℕ → Type 0
ReadingLacksMemory port before after script cert =
    (after ≡ before)
    ⊎ Reads port before after script (Err file_fault.OutOfMemory)
    ⊎ ((text : List ℕ) × ReadsSecond port before after script cert text (Err file_fault.OutOfMemory))

-- why the two files aren't both read: one of them can't be read, or an allocation failed
abbrev pub RefusesFiles : {F : Type 0} → FilesPort F → F → F → List ℕ → List ℕ → Fault → Type 0
RefusesFiles port before after script cert (Unreadable path reason) =
    (((path.now ≡ script) × Reads port before after script (Err file_fault.Failed))
    ⊎ ((path.now ≡ cert) × ((text : List ℕ) × ReadsSecond port before after script cert text (Err file_fault.Failed))))
    × (reason ≡ port.reason after)
RefusesFiles port before after script cert OutOfMemory = ReadingLacksMemory port before after script cert
RefusesFiles port before after script cert _ = ⊥

-- how `check` ends: SCRIPT and CERT aren't read, or their texts are judged
pub data CheckOutcome : Type 0 where
  refuses : Fault → CheckOutcome
  judges : Result (List Verdict) Fault → CheckOutcome

-- when it ends in this way, by the states of the files before and after
abbrev pub CheckEnds : {F : Type 0} → FilesPort F → F → F → List ℕ → List ℕ → CheckOutcome → Type 0
CheckEnds port before after script cert (refuses fault) = RefusesFiles port before after script cert fault
CheckEnds port before after script cert (judges judged) = JudgesFiles port before after script cert judged

-- the line of the verdict on section k's certificate
unfoldable pub verdict_text : ℕ → Verdict → List ℕ
verdict_text k (Yes halfwords) = codes "section " ++ decimal k ++ codes " yes " ++ decimal halfwords ++ 10 ∷ []
verdict_text k No = codes "section " ++ decimal k ++ codes " no\n"

-- the lines of verdicts on sections, numbered from a number on
abbrev pub verdicts_text : ℕ → List Verdict → List ℕ
verdicts_text k [] = []
verdicts_text k (v ∷ verdicts) = verdict_text k v ++ verdicts_text (k + 1) verdicts

-- the outcome of verdicts: whether one is a no
abbrev pub verdicts_outcome : List Verdict → Outcome
verdicts_outcome [] = Done
verdicts_outcome (Yes halfwords ∷ verdicts) = verdicts_outcome verdicts
verdicts_outcome (No ∷ verdicts) = SaidNo

-- the answer for two texts
abbrev pub judged_answer : Result (List Verdict) Fault → Answer
judged_answer (Ok verdicts) = record { text = verdicts_text 0 verdicts; outcome = verdicts_outcome verdicts }
judged_answer (Err fault) = fault_answer fault

-- the answer for each end
abbrev pub check_answer : CheckOutcome → Answer
check_answer (refuses fault) = fault_answer fault
check_answer (judges judged) = judged_answer judged

-- the answer of `check SCRIPT CERT`
abbrev pub CheckAnswers : {F : Type 0} → FilesPort F → F → F → List ℕ → List ℕ → Answer → Type 0
CheckAnswers port before after script cert answer = (outcome : CheckOutcome) × CheckEnds port before after script cert outcome × (answer ≡ check_answer outcome)
