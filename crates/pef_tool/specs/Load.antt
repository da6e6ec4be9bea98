-- The answer of `load NAME=FILE ..` (README). It reads the files, in the order of the words, before it parses any of
-- them. Then it prepares the fragment of the first name in a store of all files, and prints the memory of its closure.
-- It makes no other call on files.
use Rattle.std.specs.Prelude.{◌≡◌, ◌⊎◌, ℕ, ◌<◌, List, [], ◌∷◌, ◌++◌, Ok, Err, false, length, take}
use Rattle.cfm_store.specs.Stores.{Pair}
use Rattle.cfm_prepare.specs.Contexts.{ContextState, fresh_state}
use Rattle.cfm_prepare.specs.Steps.{MayNotPrepare, Prepares}
use Rattle.cfm_prepare.specs.declared.fault.PrepareFault.{PrepareFault}
use Rattle.pef_ports.specs.Ports.{FilesPort, Reads}
use Rattle.pef_ports.specs.declared.ports.FileFault.{FileFault}
use Rattle.pef_ports.specs.declared.ports.FileFault.TheVariants as file_fault
use Rattle.pef_tool.specs.Answers.Answers.{Answer, answer_done, answer_usage}
use Rattle.pef_tool.specs.Limits.{memory_limit, most_files}
use Rattle.pef_tool.specs.Loaded.{loaded_text}
use Rattle.pef_tool.specs.Answers.Faults.{fault_answer}
use Rattle.pef_faults.specs.declared.fault.Fault.{Fault}
use Rattle.pef_faults.specs.declared.fault.Fault.TheVariants.{Prepare, Unreadable, OutOfMemory}

-- files were read in order, one call each, and these are their bytes
abbrev pub WereRead : {F : Type 0} → FilesPort F → F → F → List (List ℕ × List ℕ) → List (List ℕ) → Type 0
WereRead {F} port before after [] [] = after ≡ before
WereRead {F} port before after [] (bytes ∷ contents) = ⊥
WereRead {F} port before after (file ∷ named) [] = ⊥
WereRead {F} port before after (file ∷ named) (bytes ∷ contents) = (between : F) × Reads port before between file.1 (Ok bytes) × WereRead port between after named contents

-- the first files were read, and then reading the next one, at this path, returned a fault
pub record StopsAt {F : Type 0} (port : FilesPort F) (before after : F) (named : List (List ℕ × List ℕ)) (path : List ℕ) (fault : FileFault) : Type 0 where
  pub done : List (List ℕ × List ℕ)
  pub name : List ℕ
  pub left : List (List ℕ × List ℕ)
  pub are : named ≡ done ++ (name, path) ∷ left
  pub contents : List (List ℕ)
  pub between : F
  pub read : WereRead port before between done contents
  pub stops : Reads port between after path (Err fault)

-- the pairs of a store: the files' names, each with its bytes
abbrev pub paired : List (List ℕ × List ℕ) → List (List ℕ) → List Pair
paired [] contents = []
paired (file ∷ named) [] = []
paired (file ∷ named) (bytes ∷ contents) = record { name = file.0; bytes = bytes; free = false } ∷ paired named contents

-- the first name
abbrev pub first_name : List (List ℕ × List ℕ) → List ℕ
first_name [] = []
first_name (file ∷ named) = file.0

-- a context of the files, in which nothing is prepared
abbrev pub context_of : List (List ℕ × List ℕ) → List (List ℕ) → ContextState
context_of named contents = fresh_state (paired named contents) memory_limit

-- all files were read and the first fragment was prepared: a connection with this number, in a context with this state
pub record PreparesFirst {F : Type 0} (port : FilesPort F) (before after : F) (named : List (List ℕ × List ℕ)) (s : ContextState) (number : ℕ) : Type 0 where
  pub contents : List (List ℕ)
  pub read : WereRead port before after named contents
  pub prepared : Prepares (context_of named contents) (first_name named) number s

-- all files were read, and the first fragment isn't prepared, for this reason
pub record RefusesFirst {F : Type 0} (port : FilesPort F) (before after : F) (named : List (List ℕ × List ℕ)) (fault : PrepareFault) : Type 0 where
  pub contents : List (List ℕ)
  pub read : WereRead port before after named contents
  pub refused : MayNotPrepare (context_of named contents) (first_name named) fault

-- an allocation failed: after none, some or all of the files were read, or while one was read
abbrev pub LoadLacksMemory : {F : Type 0} → FilesPort F → F → F → List (List ℕ × List ℕ) → Type 0
LoadLacksMemory port before after named =
    ((n : ℕ) × (contents : List (List ℕ)) × WereRead port before after (take n named) contents)
    ⊎ ((path : List ℕ) × StopsAt port before after named path file_fault.OutOfMemory)

-- why `load` is refused, by the states of the files before and after: the first fragment isn't prepared, a file can't be
-- read, or an allocation for reading failed
abbrev pub LoadRefuses : {F : Type 0} → FilesPort F → F → F → List (List ℕ × List ℕ) → Fault → Type 0
LoadRefuses port before after named (Prepare fault) = RefusesFirst port before after named fault
LoadRefuses port before after named (Unreadable path reason) = StopsAt port before after named path.now file_fault.Failed × (reason ≡ port.reason after)
LoadRefuses port before after named OutOfMemory = LoadLacksMemory port before after named
LoadRefuses port before after named _ = ⊥

-- how `load` ends: a fragment is prepared, or `load` is refused, or there are no files or too many
pub data LoadOutcome : Type 0 where
  loads : ContextState → ℕ → LoadOutcome
  refuses : Fault → LoadOutcome
  usage : LoadOutcome

-- when it ends in this way, by the states of the files before and after
abbrev pub LoadEnds : {F : Type 0} → FilesPort F → F → F → List (List ℕ × List ℕ) → LoadOutcome → Type 0
LoadEnds port before after named (loads s number) = PreparesFirst port before after named s number
LoadEnds port before after named (refuses fault) = LoadRefuses port before after named fault
LoadEnds port before after named usage = ((named ≡ []) ⊎ (most_files < length named)) × (after ≡ before)

-- the answer for each end
abbrev pub load_answer : LoadOutcome → Answer
load_answer (loads s number) = answer_done (loaded_text s number)
load_answer (refuses fault) = fault_answer fault
load_answer usage = answer_usage

-- the answer of `load NAME=FILE ..`
abbrev pub LoadAnswers : {F : Type 0} → FilesPort F → F → F → List (List ℕ × List ℕ) → Answer → Type 0
LoadAnswers port before after named answer = (outcome : LoadOutcome) × LoadEnds port before after named outcome × (answer ≡ load_answer outcome)
