-- The answer of `list FILE` (README). It reads FILE and prints the listing of the container in it. It makes no other
-- call on files. If any part of the container is refused, nothing of it is printed.
use Rattle.std.specs.Prelude.{◌≡◌, ◌⊎◌, ℕ, List, Result, Ok, Err}
use Rattle.pef_listing.specs.Listed.{Parts, listed_of}
use Rattle.pef_listing.specs.Listing.{listing_text}
use Rattle.pef_listing.specs.declared.fault.ListFault.{ListFault}
use Rattle.pef_ports.specs.Ports.{FilesPort, Reads}
use Rattle.pef_ports.specs.declared.ports.FileFault.TheVariants as file_fault
use Rattle.pef_tool.specs.Answers.Answers.{Answer, answer_done}
use Rattle.pef_tool.specs.Answers.Faults.{fault_answer}
use Rattle.pef_faults.specs.declared.fault.Fault.{Fault}
use Rattle.pef_faults.specs.declared.fault.Fault.TheVariants.{Listing, Unreadable, OutOfMemory}

-- FILE was read, and this is its listing, or the first refusal by its readers
pub record ReadsParts {F : Type 0} (port : FilesPort F) (before after : F) (path : List ℕ) (listed : Result Parts ListFault) : Type 0 where
  pub bytes : List ℕ
  pub read : Reads port before after path (Ok bytes)
  pub are : listed_of bytes ≡ listed

-- how `list` ends: it lists a container, or it is refused
pub data ListOutcome : Type 0 where
  lists : Parts → ListOutcome
  refuses : Fault → ListOutcome

-- why it is refused, by the states of the files before and after: FILE can't be listed or read, or an allocation failed
-- before or while FILE was read
abbrev pub ListRefuses : {F : Type 0} → FilesPort F → F → F → List ℕ → Fault → Type 0
ListRefuses port before after path (Listing fault) = ReadsParts port before after path (Err fault)
ListRefuses port before after path (Unreadable told reason) = (told.now ≡ path) × Reads port before after path (Err file_fault.Failed) × (reason ≡ port.reason after)
ListRefuses port before after path OutOfMemory = (after ≡ before) ⊎ Reads port before after path (Err file_fault.OutOfMemory)
ListRefuses port before after path _ = ⊥

-- when it ends in this way
abbrev pub ListEnds : {F : Type 0} → FilesPort F → F → F → List ℕ → ListOutcome → Type 0
ListEnds port before after path (lists parts) = ReadsParts port before after path (Ok parts)
ListEnds port before after path (refuses fault) = ListRefuses port before after path fault

-- the answer for each end
abbrev pub list_answer : ListOutcome → Answer
list_answer (lists parts) = answer_done (listing_text parts.container parts.loader)
list_answer (refuses fault) = fault_answer fault

-- the answer of `list FILE`
abbrev pub ListAnswers : {F : Type 0} → FilesPort F → F → F → List ℕ → Answer → Type 0
ListAnswers port before after path answer = (outcome : ListOutcome) × ListEnds port before after path outcome × (answer ≡ list_answer outcome)
