-- The answer of `extract FILE NAME OUT` (README). It reads FILE, looks for its companion if NAME is no number, finds a
-- container in them, and writes the whole container to OUT. It makes no other call on files.
use Rattle.std.specs.Prelude.{◌≡◌, ◌⊎◌, ◌==◌, ◌&&◌, ℕ, Bool, List, [], ◌∷◌, ◌++◌, Option, None, Some, Result, Ok, Err, codes, decimal, length, if◌then◌else◌}
use Rattle.std.specs.List.{slice_get}
use Rattle.std.specs.Option.{is_none, option_map_or}
use Rattle.cfm_members.specs.Contents.{rest_from}
use Rattle.cfm_members.specs.Fragments.{container_numbered}
use Rattle.cfm_members.specs.Search.{containers_in}
use Rattle.cfm_members.specs.declared.member_lookup_fault.MemberLookupFault.{MemberLookupFault}
use Rattle.cfm_members.specs.declared.member_lookup_fault.MemberLookupFault.TheVariants.{NoContainer}
use Rattle.pef_faults.specs.declared.fault.Fault.{Fault}
use Rattle.pef_faults.specs.declared.fault.Fault.TheVariants.{Fragment, Unreadable, Unwritable, OutOfMemory}
use Rattle.pef_lines.specs.Numbers.{decimal_number}
use Rattle.pef_ports.specs.Ports.{FilesPort, Reads, Writes}
use Rattle.pef_ports.specs.declared.ports.FileFault.{FileFault}
use Rattle.pef_ports.specs.declared.ports.FileFault.TheVariants as file_fault
use Rattle.pef_views.specs.Container.{Contained, container_of}
use Rattle.pef_views.specs.Extents.{IsSame, own_part}
use Rattle.pef_views.specs.declared.fault.ViewFault.{ViewFault}
use Rattle.pef_tool.specs.Answers.Answers.{Answer, answer_done}
use Rattle.pef_tool.specs.Answers.Faults.{fault_answer}
use Rattle.pef_tool.specs.Spellings.{container_asked}
use Rattle.pef_tool.specs.Companions.{CompanionIs, LooksIf, may_have_companion}

-- the container with a number, without the bytes after it
abbrev pub numbered : List ℕ → ℕ → Result (List ℕ) MemberLookupFault
numbered bytes number = option_map_or (λ rest. Ok (own_part rest (container_of rest))) (container_numbered bytes number) (Err NoContainer)

-- the container that NAME asks for: with a number, if it is `#` (23 in hex) and a decimal number, else of the fragment with
-- this name
abbrev pub wanted : List ℕ → List ℕ → Option ℕ → Result (List ℕ) MemberLookupFault
wanted bytes name number = option_map_or (numbered bytes) number (container_asked bytes bytes name)

abbrev pub number_of : List ℕ → Option ℕ
number_of [] = decimal_number []
number_of (b ∷ digits) = if b == 0x23 then decimal_number digits else decimal_number []

unfoldable pub found_in : List ℕ → List ℕ → Result (List ℕ) MemberLookupFault
found_in bytes name = wanted bytes name (number_of name)

-- an error of a fragment, as one of a command
abbrev pub as_fault : Result (List ℕ) MemberLookupFault → Result (List ℕ) Fault
as_fault (Ok container) = Ok container
as_fault (Err fault) = Err (Fragment fault)

-- the container of the fragment with this name, by what was read of the companion
abbrev pub found_beside : List ℕ → List ℕ → Result (List ℕ) Fault → Result (List ℕ) Fault
found_beside bytes name (Ok resources) = as_fault (container_asked bytes resources name)
found_beside bytes name (Err why) = Err why

-- the container that NAME asks for, in FILE and its companion if there is one
abbrev pub found_with : List ℕ → List ℕ → Option CompanionIs → Result (List ℕ) Fault
found_with bytes name None = as_fault (found_in bytes name)
found_with bytes name (Some c) = found_beside bytes name c.read

-- a companion of FILE is looked for: NAME is no number, and FILE may have one
abbrev pub is_looked_for : List ℕ → List ℕ → List ℕ → Bool
is_looked_for path name bytes = is_none (number_of name) && may_have_companion path bytes

-- FILE has these bytes, its companion was looked for, and this is the container that was found, or why there is none
pub record FindsIn {F : Type 0} (port : FilesPort F) (before after : F) (path name bytes : List ℕ) (found : Result (List ℕ) Fault) : Type 0 where
  pub companion : Option CompanionIs
  pub looked : LooksIf (is_looked_for path name bytes) port before after path companion
  pub is : found_with bytes name companion ≡ found

-- FILE was read before that
pub record FindsContainer {F : Type 0} (port : FilesPort F) (before after : F) (path name : List ℕ) (found : Result (List ℕ) Fault) : Type 0 where
  pub bytes : List ℕ
  pub between : F
  pub read : Reads port before between path (Ok bytes)
  pub finds : FindsIn port between after path name bytes found

-- FILE was read, this container was found in it, and the write of the whole container to OUT returned this result
pub record WritesFound {F : Type 0} (port : FilesPort F) (before after : F) (path name out container : List ℕ) (answer : Result (Unit {0}) FileFault) : Type 0 where
  pub between : F
  pub finds : FindsContainer port before between path name (Ok container)
  pub written : Writes port between after out container answer

-- an allocation failed: before or while FILE was read, while its companion was looked for, or during the write of the whole
-- container
abbrev pub ExtractLacksMemory : {F : Type 0} → FilesPort F → F → F → List ℕ → List ℕ → List ℕ → Type 0
ExtractLacksMemory port before after path name out =
    (after ≡ before)
    ⊎ Reads port before after path (Err file_fault.OutOfMemory)
    ⊎ FindsContainer port before after path name (Err OutOfMemory)
    ⊎ ((container : List ℕ) × WritesFound port before after path name out container (Err file_fault.OutOfMemory))

-- why `extract` is refused: FILE can't be read or has no such container, OUT can't be written, or an allocation failed
abbrev pub ExtractRefuses : {F : Type 0} → FilesPort F → F → F → List ℕ → List ℕ → List ℕ → Fault → Type 0
ExtractRefuses port before after path name out (Unreadable told reason) = (told.now ≡ path) × Reads port before after path (Err file_fault.Failed) × (reason ≡ port.reason after)
ExtractRefuses port before after path name out (Fragment fault) = FindsContainer port before after path name (Err (Fragment fault))
ExtractRefuses port before after path name out (Unwritable told reason) =
    (told.now ≡ out) × ((container : List ℕ) × WritesFound port before after path name out container (Err file_fault.Failed)) × (reason ≡ port.reason after)
ExtractRefuses port before after path name out OutOfMemory = ExtractLacksMemory port before after path name out
ExtractRefuses port before after path name out _ = ⊥

-- how `extract` ends: it writes a container, or it is refused
pub data ExtractOutcome : Type 0 where
  extracts : List ℕ → ExtractOutcome
  refuses : Fault → ExtractOutcome

-- when it ends in this way, by the states of the files before and after
abbrev pub ExtractEnds : {F : Type 0} → FilesPort F → F → F → List ℕ → List ℕ → List ℕ → ExtractOutcome → Type 0
ExtractEnds port before after path name out (extracts container) = WritesFound port before after path name out container (Ok tt)
ExtractEnds port before after path name out (refuses fault) = ExtractRefuses port before after path name out fault

-- the line of a container's size in bytes
unfoldable pub extracted_text : ℕ → List ℕ
extracted_text size = codes "extracted " ++ decimal size ++ codes " bytes\n"

-- the answer for each end
abbrev pub extract_answer : ExtractOutcome → Answer
extract_answer (extracts container) = answer_done (extracted_text (length container))
extract_answer (refuses fault) = fault_answer fault

-- the answer of `extract FILE NAME OUT`
abbrev pub ExtractAnswers : {F : Type 0} → FilesPort F → F → F → List ℕ → List ℕ → List ℕ → Answer → Type 0
ExtractAnswers port before after path name out answer =
    (outcome : ExtractOutcome) × ExtractEnds port before after path name out outcome × (answer ≡ extract_answer outcome)

-- what is extracted of some bytes is all of them, or a container with the same header, loader section, sections and names
abbrev pub IsKept : List ℕ → Result Contained ViewFault → Result (List ℕ) MemberLookupFault → Type 0
IsKept rest (Ok c) found = (out : List ℕ) × (own : Contained) × (found ≡ Ok out) × (container_of out ≡ Ok own) × IsSame c own
IsKept rest (Err fault) found = found ≡ Ok rest

-- `extract '#N'` takes a container from the bytes that `inspect` reads of it, which are these in `IsRow` of `mac_report`, too
abbrev pub ExtractsInspected : Type 0
ExtractsInspected = (bytes : List ℕ) (number at : ℕ) → slice_get (containers_in bytes 0) number ≡ Some at → IsKept (rest_from bytes at) (container_of (rest_from bytes at)) (numbered bytes number)
