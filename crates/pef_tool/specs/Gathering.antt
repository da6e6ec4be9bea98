-- The files of `prepare` and `stubs`. They are read in the order of the words, each with its companion if it may have one, before
-- any of them is parsed.
use Rattle.std.specs.Prelude.{◌≡◌, ◌⊎◌, ℕ, Bool, true, false, List, [], ◌∷◌, ◌++◌, Option, None, Some, Result, Ok, Err, take}
use Rattle.pef_words.specs.Refusals.{result_map}
use Rattle.pef_faults.specs.declared.fault.Fault.{Fault}
use Rattle.pef_faults.specs.declared.fault.Fault.TheVariants.{OutOfMemory}
use Rattle.pef_gather.specs.Gathered.{Given}
use Rattle.pef_ports.specs.Ports.{FilesPort, Reads}
use Rattle.pef_request.specs.Files.{Operand}
use Rattle.pef_tool.specs.Companions.{CompanionIs, LooksIf, may_have_companion, name_of}
use Rattle.pef_tool.specs.Reading.{StopsFile}

-- a file that is to be read: the name for its first fragment if there is one, its path, and whether it has libraries only
pub record WantedIs : Type 0 where
  pub name : Option (List ℕ)
  pub path : List ℕ
  pub is_library : Bool

-- the file of an operand, which may have the root, and one with libraries only

abbrev pub wanted_root : Operand → WantedIs
wanted_root operand = record { name = operand.0; path = operand.1; is_library = false }

abbrev pub wanted_library : List ℕ → WantedIs
wanted_library path = record { name = None; path = path; is_library = true }

-- what was read of a companion, if there is one
abbrev pub resources_in : Option CompanionIs → Result (Option (List ℕ)) Fault
resources_in None = Ok None
resources_in (Some c) = result_map Some c.read

-- the file at a path was read, and then its companion, if it has one
pub record ReadsBeside {F : Type 0} (port : FilesPort F) (before after : F) (path bytes : List ℕ) (resources : Result (Option (List ℕ)) Fault) : Type 0 where
  pub between : F
  pub companion : Option CompanionIs
  pub read : Reads port before between path (Ok bytes)
  pub looked : LooksIf (may_have_companion path bytes) port between after path companion
  pub are : resources_in companion ≡ resources

-- a file, with what was read of it
abbrev pub given_as : WantedIs → List ℕ → Option (List ℕ) → Given
given_as w bytes resources = record { name = w.name; file_name = name_of w.path; path = w.path; bytes = bytes; resources = resources; is_library = w.is_library }

pub record IsGiven {F : Type 0} (port : FilesPort F) (before after : F) (w : WantedIs) (g : Given) : Type 0 where
  pub bytes : List ℕ
  pub resources : Option (List ℕ)
  pub read : ReadsBeside port before after w.path bytes (Ok resources)
  pub is : g ≡ given_as w bytes resources

-- files were read in order, and this is what was read of them
abbrev pub WereGathered : {F : Type 0} → FilesPort F → F → F → List WantedIs → List Given → Type 0
WereGathered {F} port before after [] [] = after ≡ before
WereGathered {F} port before after [] (g ∷ given) = ⊥
WereGathered {F} port before after (w ∷ wanted) [] = ⊥
WereGathered {F} port before after (w ∷ wanted) (g ∷ given) = (between : F) × IsGiven port before between w g × WereGathered port between after wanted given

-- a file isn't read, for this reason: its own, or that of its companion
abbrev pub StopsGiven : {F : Type 0} → FilesPort F → F → F → WantedIs → Fault → Type 0
StopsGiven port before after w fault =
    StopsFile port before after w.path fault ⊎ ((bytes : List ℕ) × ReadsBeside port before after w.path bytes (Err fault))

-- the first files were read, and the next one isn't, for this reason
pub record StopsAfter {F : Type 0} (port : FilesPort F) (before after : F) (wanted : List WantedIs) (fault : Fault) : Type 0 where
  pub done : List WantedIs
  pub next : WantedIs
  pub left : List WantedIs
  pub are : wanted ≡ done ++ next ∷ left
  pub given : List Given
  pub between : F
  pub read : WereGathered port before between done given
  pub stops : StopsGiven port between after next fault

-- why not all files were read: one of them can't be, or an allocation failed after none, some or all of them
abbrev pub StopsGathering : {F : Type 0} → FilesPort F → F → F → List WantedIs → Fault → Type 0
StopsGathering port before after wanted fault =
    StopsAfter port before after wanted fault
    ⊎ ((fault ≡ OutOfMemory) × ((n : ℕ) × (given : List Given) × WereGathered port before after (take n wanted) given))
