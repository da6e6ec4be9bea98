-- The answers of `inspect [--json] FILE ..`, of `inspect [--json] --resources RESOURCES FILE` and of `inspect [--json] --files0`
-- (docs/INSPECT.md). It reads one file after the other, in the order of the words, looks for the companion of each, and prints a
-- report on both before it reads the next. It makes no other call on files. `-` names the standard input.
use Rattle.std.specs.Prelude.{◌≡◌, ◌⊎◌, ℕ, ◌+◌, ◌-◌, ◌^◌, ◌==◌, ◌&&◌, ◌≤◌, Bool, true, false, not, List, [], ◌∷◌, ◌++◌, Option, None, Some, Result, Ok, Err, codes, length, min, if◌then◌else◌}
use Rattle.std.specs.Str.{bytes_eq}
use Rattle.mac_report.specs.Reports.{IsReport}
use Rattle.mac_rows.specs.DataFiles.{DataFileIs}
use Rattle.mac_rows.specs.Unread.{unread_because}
use Rattle.mac_rows.specs.declared.output_format.OutputFormat.{OutputFormat}
use Rattle.mac_rows.specs.declared.output_format.OutputFormat.TheVariants.{Text, Json}
use Rattle.pef_faults.specs.Faults.{fault_name, fault_number, fault_reason}
use Rattle.pef_faults.specs.declared.fault.Fault.{Fault}
use Rattle.pef_faults.specs.declared.fault.Fault.TheVariants.{Input, Unreadable, OutOfMemory}
use Rattle.pef_ports.specs.Input.{IsWhole}
use Rattle.pef_ports.specs.Ports.{Begins, FilesPort, NoneFailed, Reads, Stream}
use Rattle.pef_ports.specs.declared.ports.FileFault.TheVariants as file_fault
use Rattle.pef_rows.specs.declared.frames.Counts.{Counts}
use Rattle.pef_tool.specs.Answers.Answers.{Answer}
use Rattle.pef_tool.specs.Answers.Faults.{fault_answer}
use Rattle.pef_tool.specs.Companions.{CompanionIs, LooksIf, may_have_companion}
use Rattle.pef_tool.specs.Limits.{input_limit}
use Rattle.pef_tool.specs.Show.{RefusesToRead}
use Rattle.pef_tool.specs.declared.answers.outcome.Outcome.{Outcome}
use Rattle.pef_tool.specs.declared.answers.outcome.Outcome.TheVariants.{Done, SaidNo}

-- how the reports are printed
abbrev pub form_of : Bool → OutputFormat
form_of json = if json then Json else Text

-- a path names the standard input
abbrev pub is_input : List ℕ → Bool
is_input path = bytes_eq path (codes "-")

-- the whole standard input was read, or why not
abbrev pub ReadsStandard : Stream → Stream → Result (List ℕ) Fault → Type 0
ReadsStandard before after (Ok bytes) = IsWhole before.bytes bytes × Begins before.bytes after.bytes bytes × (length bytes ≤ input_limit) × NoneFailed before after
ReadsStandard before after (Err (Input fault)) = RefusesToRead before after fault
ReadsStandard before after (Err _) = ⊥

-- the file at a path was read, or why not
abbrev pub ReadsPath : {F : Type 0} → FilesPort F → F → F → List ℕ → Result (List ℕ) Fault → Type 0
ReadsPath port before after path (Ok bytes) = Reads port before after path (Ok bytes)
ReadsPath port before after path (Err (Unreadable told reason)) = (told.now ≡ path) × Reads port before after path (Err file_fault.Failed) × (reason ≡ port.reason after)
ReadsPath port before after path (Err OutOfMemory) = Reads port before after path (Err file_fault.OutOfMemory)
ReadsPath port before after path (Err _) = ⊥

-- what a path names was read, or why not
abbrev pub ReadsBy : {F R : Type 0} → Bool → FilesPort F → (R → Stream) → F → F → R → R → List ℕ → Result (List ℕ) Fault → Type 0
ReadsBy true port stream files files' input input' path read = ReadsStandard (stream input) (stream input') read × (files' ≡ files)
ReadsBy false port stream files files' input input' path read = ReadsPath port files files' path read × (input' ≡ input)

-- .. or an allocation failed before that
abbrev pub IsRead : {F R : Type 0} → FilesPort F → (R → Stream) → F → F → R → R → List ℕ → Result (List ℕ) Fault → Type 0
IsRead port stream files files' input input' path read =
    ReadsBy (is_input path) port stream files files' input input' path read
    ⊎ ((read ≡ Err OutOfMemory) × (files' ≡ files) × (input' ≡ input))

-- the companion of a file was looked for, if the file was read. The standard input has none
abbrev pub LooksFor : {F : Type 0} → FilesPort F → F → F → List ℕ → Result (List ℕ) Fault → Option CompanionIs → Type 0
LooksFor port before after path (Ok bytes) companion = LooksIf (not (is_input path) && may_have_companion path bytes) port before after path companion
LooksFor port before after path (Err fault) companion = (companion ≡ None) × (after ≡ before)

-- the companion that was asked for was read, if the file was read
abbrev pub ReadsGiven : {F R : Type 0} → List ℕ → FilesPort F → (R → Stream) → F → F → R → R → Result (List ℕ) Fault → Option CompanionIs → Type 0
ReadsGiven resources port stream files files' input input' (Ok bytes) None = ⊥
ReadsGiven resources port stream files files' input input' (Ok bytes) (Some c) = (c.path ≡ resources) × IsRead port stream files files' input input' resources c.read
ReadsGiven resources port stream files files' input input' (Err fault) companion = (companion ≡ None) × (files' ≡ files) × (input' ≡ input)

-- the companion that was asked for, or the one that was looked for
abbrev pub LooksBy : {F R : Type 0} → Option (List ℕ) → FilesPort F → (R → Stream) → F → F → R → R → List ℕ → Result (List ℕ) Fault → Option CompanionIs → Type 0
LooksBy None port stream files files' input input' path read companion = LooksFor port files files' path read companion × (input' ≡ input)
LooksBy (Some resources) port stream files files' input input' path read companion = ReadsGiven resources port stream files files' input input' read companion

-- a file was read, and then its companion
pub record ReadsPair {F R : Type 0} (port : FilesPort F) (stream : R → Stream) (given : Option (List ℕ)) (files files' : F) (input input' : R) (path : List ℕ) (read : Result (List ℕ) Fault) (companion : Option CompanionIs) : Type 0 where
  pub between : F
  pub rest : R
  pub is : IsRead port stream files between input rest path read
  pub looks : LooksBy given port stream between files' rest input' path read companion

-- what a file is to blame for: its errors, and the containers that weren't inspected
abbrev pub blamed : Counts → ℕ
blamed counts = min (counts.errors + counts.unverified) (2 ^ 64 - 1)

-- a report on what was read, and its number of these. A file that wasn't read has one error
abbrev pub IsPrinted : OutputFormat → List ℕ → Option DataFileIs → Result (List ℕ) Fault → List ℕ → ℕ → Type 0
IsPrinted form path other (Ok bytes) text errors = (counts : Counts) × IsReport form path bytes other text counts × (errors ≡ blamed counts)
IsPrinted form path other (Err fault) text errors = (text ≡ unread_because form path (fault_number fault) (fault_name fault) (fault_reason fault)) × (errors ≡ 1)

-- the report on the companion of a file, if there is one. The file has its data fork
abbrev pub IsPrintedBeside : OutputFormat → List ℕ → Result (List ℕ) Fault → Option CompanionIs → List ℕ → ℕ → Type 0
IsPrintedBeside form path (Ok bytes) (Some c) text errors = IsPrinted form c.path (Some (record { path = path; bytes = bytes })) c.read text errors
IsPrintedBeside form path (Ok bytes) None text errors = (text ≡ []) × (errors ≡ 0)
IsPrintedBeside form path (Err fault) companion text errors = (text ≡ []) × (errors ≡ 0)

-- the report on a file, and that on its companion
pub record IsPairPrinted (form : OutputFormat) (path : List ℕ) (read : Result (List ℕ) Fault) (companion : Option CompanionIs) (text : List ℕ) (errors : ℕ) : Type 0 where
  pub own : List ℕ
  pub own_errors : ℕ
  pub beside : List ℕ
  pub beside_errors : ℕ
  pub first : IsPrinted form path None read own own_errors
  pub second : IsPrintedBeside form path read companion beside beside_errors
  pub texts : text ≡ own ++ beside
  pub sum : errors ≡ min (own_errors + beside_errors) (2 ^ 64 - 1)

-- one file was read and reported, with its companion
pub record Reported {F R : Type 0} (port : FilesPort F) (stream : R → Stream) (given : Option (List ℕ)) (form : OutputFormat) (files files' : F) (input input' : R) (path text : List ℕ) (errors : ℕ) : Type 0 where
  pub read : Result (List ℕ) Fault
  pub companion : Option CompanionIs
  pub pair : ReadsPair port stream given files files' input input' path read companion
  pub printed : IsPairPrinted form path read companion text errors

-- the files at some paths were read and reported, one after the other, with this number of errors in all, up to the
-- greatest number of 64 bits
abbrev pub Inspects : {F R : Type 0} → FilesPort F → (R → Stream) → OutputFormat → F → F → R → R → List (List ℕ) → ℕ → List ℕ → ℕ → Type 0
Inspects {F} {R} port stream form files files' input input' [] before text errors = (files' ≡ files) × (input' ≡ input) × (text ≡ []) × (errors ≡ before)
Inspects {F} {R} port stream form files files' input input' (path ∷ paths) before text errors =
    (between : F) × (rest : R) × (here : List ℕ) × (more : ℕ) × (others : List ℕ)
    × Reported port stream None form files between input rest path here more
    × Inspects port stream form between files' rest input' paths (min (before + more) (2 ^ 64 - 1)) others errors
    × (text ≡ here ++ others)

-- the outcome: whether a file has an error
abbrev pub outcome_of : ℕ → Outcome
outcome_of errors = if errors == 0 then Done else SaidNo

-- the answer of `inspect`. An allocation may fail before the command does anything
abbrev pub InspectAnswers : {F R : Type 0} → FilesPort F → (R → Stream) → Bool → F → F → R → R → List (List ℕ) → Answer → Type 0
InspectAnswers port stream json files files' input input' paths answer =
    ((text : List ℕ) × (errors : ℕ)
    × Inspects port stream (form_of json) files files' input input' paths 0 text errors
    × (answer ≡ record { text = text; outcome = outcome_of errors }))
    ⊎ ((answer ≡ fault_answer OutOfMemory) × (files' ≡ files) × (input' ≡ input))

-- the answer of `inspect [--json] --resources RESOURCES FILE`. An allocation may fail before the command does anything
abbrev pub InspectPairAnswers : {F R : Type 0} → FilesPort F → (R → Stream) → Bool → F → F → R → R → List ℕ → List ℕ → Answer → Type 0
InspectPairAnswers port stream json files files' input input' resources path answer =
    ((text : List ℕ) × (errors : ℕ)
    × Reported port stream (Some resources) (form_of json) files files' input input' path text errors
    × (answer ≡ record { text = text; outcome = outcome_of errors }))
    ⊎ ((answer ≡ fault_answer OutOfMemory) × (files' ≡ files) × (input' ≡ input))

-- the paths in a list, each ended by a zero byte or by the end of the list
abbrev pub begun_with : ℕ → List (List ℕ) → List (List ℕ)
begun_with b [] = (b ∷ []) ∷ []
begun_with b (path ∷ paths) = (b ∷ path) ∷ paths

abbrev pub listed_paths : List ℕ → List (List ℕ)
listed_paths [] = []
listed_paths (b ∷ list) = if b == 0 then [] ∷ listed_paths list else begun_with b (listed_paths list)

-- the answer of `inspect [--json] --files0`. It reads the list of paths from the standard input, and then the files. If the
-- list can't be read, or an allocation fails before that, it is refused
abbrev pub InspectListedAnswers : {F R : Type 0} → FilesPort F → (R → Stream) → Bool → F → F → R → R → Answer → Type 0
InspectListedAnswers {F} {R} port stream json files files' input input' answer =
    ((list : List ℕ) × (between : R) × ReadsStandard (stream input) (stream between) (Ok list)
    × InspectAnswers port stream json files files' between input' (listed_paths list) answer)
    ⊎ ((fault : Fault) × ReadsStandard (stream input) (stream input') (Err fault) × (files' ≡ files) × (answer ≡ fault_answer fault))
    ⊎ ((answer ≡ fault_answer OutOfMemory) × (files' ≡ files) × (input' ≡ input))
