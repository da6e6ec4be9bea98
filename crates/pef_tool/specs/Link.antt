-- The answer of `link SCRIPT OUT` (README). It reads SCRIPT, links it, and writes the whole container to OUT. It makes
-- no other call on files.
use Rattle.std.specs.Prelude.{◌≡◌, ◌⊎◌, ℕ, ◌+◌, List, [], ◌∷◌, ◌++◌, Result, Ok, Err, codes, decimal, length}
use Rattle.pef_ports.specs.Ports.{FilesPort, Reads, Writes}
use Rattle.pef_ports.specs.declared.ports.FileFault.{FileFault}
use Rattle.pef_ports.specs.declared.ports.FileFault.TheVariants as file_fault
use Rattle.pef_script.specs.Text.Grammar.{script_of}
use Rattle.pef_script.specs.Script.{DescribedScript}
use Rattle.pef_script.specs.Text.Reads.{FailsAs}
use Rattle.pef_script.specs.declared.text.fault.ScriptFault.{ScriptFault}
use Rattle.pef_faults.specs.declared.fault.Fault.{Fault}
use Rattle.pef_faults.specs.declared.fault.Fault.TheVariants.{Script, Unreadable, Unwritable, OutOfMemory}
use Rattle.pef_tool.specs.Answers.Answers.{Answer, answer_done}
use Rattle.pef_tool.specs.Answers.Faults.{fault_answer}
use Rattle.pef_write.specs.Linked.{IsLinkedContainer, LinkedContainer}

-- SCRIPT was read, has this text, and isn't a script, for this reason
pub record RefusesFile {F : Type 0} (port : FilesPort F) (before after : F) (path : List ℕ) (fault : ScriptFault) (text : List ℕ) : Type 0 where
  pub read : Reads port before after path (Ok text)
  pub refused : FailsAs fault (script_of text)

-- SCRIPT was read, and its script was linked
pub record LinksFile {F : Type 0} (port : FilesPort F) (before after : F) (path : List ℕ) (l : LinkedContainer) : Type 0 where
  pub text : List ℕ
  pub read : Reads port before after path (Ok text)
  pub script : DescribedScript
  pub is_script : script_of text ≡ Ok script
  pub linked : IsLinkedContainer script l

-- an allocation failed before, during or after reading SCRIPT
abbrev pub LinkingLacksMemory : {F : Type 0} → FilesPort F → F → F → List ℕ → Type 0
LinkingLacksMemory port before after script =
    (after ≡ before)
    ⊎ Reads port before after script (Err file_fault.OutOfMemory)
    ⊎ ((text : List ℕ) × Reads port before after script (Ok text))

-- why SCRIPT isn't linked
abbrev pub RefusesLinking : {F : Type 0} → FilesPort F → F → F → List ℕ → Fault → Type 0
RefusesLinking port before after script (Unreadable path reason) = (path.now ≡ script) × Reads port before after script (Err file_fault.Failed) × (reason ≡ port.reason after)
RefusesLinking port before after script (Script fault text) = RefusesFile port before after script fault text.now
RefusesLinking port before after script OutOfMemory = LinkingLacksMemory port before after script
RefusesLinking port before after script _ = ⊥

-- SCRIPT was read, its script was linked, and the write of the whole container to OUT returned this result
pub record WritesLinked {F : Type 0} (port : FilesPort F) (before after : F) (path out : List ℕ) (l : LinkedContainer) (answer : Result (Unit {0}) FileFault) : Type 0 where
  pub between : F
  pub links : LinksFile port before between path l
  pub written : Writes port between after out l.bytes answer

-- an allocation failed: before SCRIPT was linked, or during the write of the whole container
abbrev pub LinkLacksMemory : {F : Type 0} → FilesPort F → F → F → List ℕ → List ℕ → Type 0
LinkLacksMemory port before after script out =
    LinkingLacksMemory port before after script
    ⊎ ((l : LinkedContainer) × WritesLinked port before after script out l (Err file_fault.OutOfMemory))

-- why `link` is refused: SCRIPT can't be read or isn't a script, OUT can't be written, or an allocation failed
abbrev pub LinkRefuses : {F : Type 0} → FilesPort F → F → F → List ℕ → List ℕ → Fault → Type 0
LinkRefuses port before after script out (Unwritable path reason) =
    (path.now ≡ out) × ((l : LinkedContainer) × WritesLinked port before after script out l (Err file_fault.Failed)) × (reason ≡ port.reason after)
LinkRefuses port before after script out OutOfMemory = LinkLacksMemory port before after script out
LinkRefuses port before after script out fault = RefusesLinking port before after script fault

-- how `link` ends: it links a container, or it is refused
pub data LinkOutcome : Type 0 where
  links : LinkedContainer → LinkOutcome
  refuses : Fault → LinkOutcome

-- when it ends in this way, by the states of the files before and after
abbrev pub LinkEnds : {F : Type 0} → FilesPort F → F → F → List ℕ → List ℕ → LinkOutcome → Type 0
LinkEnds port before after script out (links l) = WritesLinked port before after script out l (Ok tt)
LinkEnds port before after script out (refuses fault) = LinkRefuses port before after script out fault

-- the line of a container's size in bytes
unfoldable pub size_text : ℕ → List ℕ
size_text size = codes "linked " ++ decimal size ++ codes " bytes\n"

-- the line of the length of section k's program in halfwords
unfoldable pub length_text : ℕ → ℕ → List ℕ
length_text k len = codes "section " ++ decimal k ++ codes " length " ++ decimal len ++ 10 ∷ []

-- the lines of sections, numbered from a number on
abbrev pub lengths_text : ℕ → List ℕ → List ℕ
lengths_text k [] = []
lengths_text k (len ∷ lengths) = length_text k len ++ lengths_text (k + 1) lengths

-- the text that is printed after linking: the container's size, then the length of each section's program
abbrev pub linked_text : LinkedContainer → List ℕ
linked_text l = size_text (length l.bytes) ++ lengths_text 0 l.lengths

-- the answer for each end
abbrev pub link_answer : LinkOutcome → Answer
link_answer (links l) = answer_done (linked_text l)
link_answer (refuses fault) = fault_answer fault

-- the answer of `link SCRIPT OUT`
abbrev pub LinkAnswers : {F : Type 0} → FilesPort F → F → F → List ℕ → List ℕ → Answer → Type 0
LinkAnswers port before after script out answer = (outcome : LinkOutcome) × LinkEnds port before after script out outcome × (answer ≡ link_answer outcome)
