-- The answer of `distances SCRIPT` (README). It reads SCRIPT, links it, and prints the certificates. It makes no other
-- call on files.
use Rattle.std.specs.Prelude.{◌≡◌, ℕ, List, Result, Ok, Err, map}
use Rattle.pef_cert.specs.Certified.{Certified}
use Rattle.pef_cert.specs.Text.Printed.{certificates_text}
use Rattle.pef_ports.specs.Ports.{FilesPort, Reads}
use Rattle.pef_reloc.specs.Instrs.{program_length}
use Rattle.pef_script.specs.Script.{DescribedScript}
use Rattle.pef_script.specs.Text.Grammar.{script_of}
use Rattle.pef_tool.specs.Answers.Answers.{Answer, answer_done}
use Rattle.pef_tool.specs.Link.{RefusesLinking}
use Rattle.pef_tool.specs.Answers.Faults.{fault_answer}
use Rattle.pef_tool.specs.declared.check.Verdict.{Verdict}
use Rattle.pef_tool.specs.declared.check.Verdict.TheVariants.{Yes}
use Rattle.pef_faults.specs.declared.fault.Fault.{Fault}
use Rattle.pef_faults.specs.Faults.{fault_number}
use Rattle.pef_write.specs.Linked.{IsCertifiedLink, LinkedContainer}

-- SCRIPT was read, and its script was linked with these certificates. The program of certificate k is the one that the
-- container has for section k.
pub record CertifiesFile {F : Type 0} (port : FilesPort F) (before after : F) (path : List ℕ) (certificates : List Certified) : Type 0 where
  pub text : List ℕ
  pub read : Reads port before after path (Ok text)
  pub script : DescribedScript
  pub is_script : script_of text ≡ Ok script
  pub container : LinkedContainer
  pub linked : IsCertifiedLink script (record { container = container; certificates = certificates })

-- how `distances` ends: it prints the certificates of a link, or it is refused
pub data DistancesOutcome : Type 0 where
  certifies : List Certified → DistancesOutcome
  refuses : Fault → DistancesOutcome

-- when it ends in this way, by the states of the files before and after
abbrev pub DistancesEnd : {F : Type 0} → FilesPort F → F → F → List ℕ → DistancesOutcome → Type 0
DistancesEnd port before after script (certifies certificates) = CertifiesFile port before after script certificates
DistancesEnd port before after script (refuses fault) = RefusesLinking port before after script fault

-- the answer for each end
abbrev pub distances_answer : DistancesOutcome → Answer
distances_answer (certifies certificates) = answer_done (certificates_text certificates)
distances_answer (refuses fault) = fault_answer fault

-- the answer of `distances SCRIPT`
abbrev pub DistancesAnswers : {F : Type 0} → FilesPort F → F → F → List ℕ → Answer → Type 0
DistancesAnswers port before after script answer = (outcome : DistancesOutcome) × DistancesEnd port before after script outcome × (answer ≡ distances_answer outcome)

-- the result of `check` if it answers yes for each certificate, with its program's length, or an allocation failed
abbrev pub IsYesToAll : List Certified → Result (List Verdict) Fault → Type 0
IsYesToAll certificates (Ok verdicts) = verdicts ≡ map (λ c. Yes (program_length c.program)) certificates
IsYesToAll certificates (Err why) = fault_number why ≡ 99
