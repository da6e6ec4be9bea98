-- How the script in a text is parsed and linked, for the commands that do so.
use Rattle.std.specs.Prelude.{◌≡◌, ℕ, List, Result, Ok, Err}
use Rattle.pef_cert.specs.Certified.{Certified}
use Rattle.pef_script.specs.Text.Grammar.{script_of}
use Rattle.pef_script.specs.Text.Reads.{FailsAs}
use Rattle.pef_script.specs.Script.{DescribedScript}
use Rattle.pef_faults.specs.declared.fault.Fault.{Fault}
use Rattle.pef_faults.specs.declared.fault.Fault.TheVariants.{Script, OutOfMemory}
use Rattle.pef_write.specs.Linked.{AreLinkCertificates, IsLinkedContainer, LinkedContainer}

-- why the script in a text isn't linked: its first error, or a failed allocation
abbrev pub RefusesText : List ℕ → Fault → Type 0
RefusesText text (Script fault told) = (told.now ≡ text) × FailsAs fault (script_of text)
RefusesText text OutOfMemory = Unit {0}
RefusesText text _ = ⊥

-- the result of parsing a text: its script, or an error
abbrev pub ReadsScript : List ℕ → Result DescribedScript Fault → Type 0
ReadsScript text (Ok script) = script_of text ≡ Ok script
ReadsScript text (Err fault) = RefusesText text fault

-- the result of linking a text: the container of its script, or an error
abbrev pub LinksText : List ℕ → Result LinkedContainer Fault → Type 0
LinksText text (Ok l) = (script : DescribedScript) × (script_of text ≡ Ok script) × IsLinkedContainer script l
LinksText text (Err fault) = RefusesText text fault

-- .. or its certificates
abbrev pub CertifiesText : List ℕ → Result (List Certified) Fault → Type 0
CertifiesText text (Ok certificates) = (script : DescribedScript) × (script_of text ≡ Ok script) × AreLinkCertificates script certificates
CertifiesText text (Err fault) = RefusesText text fault
