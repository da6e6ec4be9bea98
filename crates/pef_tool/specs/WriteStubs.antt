-- The answer of `stubs [NAME=]FILE ..` (docs/USAGE.md). It reads the files as `prepare` does, makes stubs of the libraries that their
-- fragments lack, and writes the container of each to a file of its own.
use Rattle.std.specs.Prelude.{◌≡◌, ◌⊎◌, ℕ, ◌++◌, List, [], ◌∷◌, Option, None, Some, Ok, Err, codes, decimal, length, map}
use Rattle.cfm_files.specs.Paths.{stub_path}
use Rattle.cfm_files.specs.Writing.{FileIs}
use Rattle.cfm_rows.specs.Symbols.{symbol_lines}
use Rattle.cfm_store.specs.Stores.{Pair}
use Rattle.cfm_stubs.specs.Lacking.{lacking_in, loaders_in, wanted}
use Rattle.cfm_stubs.specs.NumberStubs.{MadeStub}
use Rattle.cfm_stubs.specs.Stubs.{FailsAs}
use Rattle.cfm_stubs.specs.Values.{AreStubs, refusals}
use Rattle.cfm_stubs.specs.declared.fault.StubFault.{StubFault}
use Rattle.cfm_stubs.specs.declared.values.StubValues.{StubValues}
use Rattle.cfm_stubs.specs.declared.values.StubValues.TheVariants as values
use Rattle.pef_faults.specs.declared.fault.Fault.{Fault}
use Rattle.pef_faults.specs.declared.fault.Fault.TheVariants.{OutOfMemory, Stub}
use Rattle.pef_gather.specs.Gathered.{Found, Given, Refusal, found_in}
use Rattle.pef_gather.specs.Stores.{supplied}
use Rattle.pef_ports.specs.Names.{name_text}
use Rattle.pef_ports.specs.Ports.{FilesPort}
use Rattle.pef_request.specs.Requests.{StubsOf}
use Rattle.pef_request.specs.declared.stubs.StubSymbols.{StubSymbols}
use Rattle.pef_request.specs.declared.stubs.StubSymbols.TheVariants as symbols
use Rattle.pef_tool.specs.Answers.Answers.{Answer, answer_done}
use Rattle.pef_tool.specs.Answers.Faults.{fault_answer}
use Rattle.pef_tool.specs.Gathering.{StopsGathering, WereGathered, wanted_root}
use Rattle.pef_tool.specs.Prepare.{IsRefusal, StopsStore}
use Rattle.pef_tool.specs.Writing.{WritesThenAnswers}

-- what the symbols are. In memory a routine is the instruction `sc`, which an emulator catches, and data are 16 zeros
abbrev pub values_of : StubSymbols → StubValues
values_of (symbols.Numbers first step) = values.Numbers first step
values_of symbols.Memory = values.Memory 0x44000002 16

-- the folder of the files: the current one, if none is given
abbrev pub folder_in : Option (List ℕ) → List ℕ
folder_in None = codes "."
folder_in (Some folder) = folder

-- the stubs of what all fragments lack
abbrev pub AreFound : StubsOf → List Pair → List MadeStub → Type 0
AreFound asked pairs stubs = AreStubs (values_of asked.symbols) (loaders_in pairs) (wanted asked.weak (lacking_in pairs)) stubs

-- why there are none
abbrev pub IsUnmade : StubsOf → List Pair → StubFault → Type 0
IsUnmade asked pairs fault = FailsAs fault (refusals (values_of asked.symbols) (loaders_in pairs) (wanted asked.weak (lacking_in pairs)))

-- a stub with the path of its file
pub record StubFileIs : Type 0 where
  pub path : List ℕ
  pub stub : MadeStub

abbrev pub stub_file : List ℕ → MadeStub → StubFileIs
stub_file folder s = record { path = stub_path folder s.name; stub = s }

-- its file
abbrev pub stub_written : StubFileIs → FileIs
stub_written s = record { path = s.path; bytes = s.stub.bytes }

-- the lines of a stub that was written: its library, how many symbols it has and its file, and then its symbols that are numbers
unfoldable pub written_line : StubFileIs → List ℕ
written_line s = codes "stub " ++ name_text s.stub.name ++ codes " " ++ decimal (length s.stub.exports) ++ codes " " ++ name_text s.path ++ codes "\n"

abbrev pub written_text : List StubFileIs → List ℕ
written_text [] = []
written_text (s ∷ stubs) = (written_line s ++ symbol_lines s.stub.exports) ++ written_text stubs

-- why no stub is written: the fragments of a file can't be told, they are too many, no stub of a library can be made, or an allocation
-- failed
abbrev pub RefusesStubs : StubsOf → List Given → Fault → Type 0
RefusesStubs asked given fault =
    ((refusal : Refusal) × (found_in given ≡ Err refusal) × IsRefusal fault refusal)
    ⊎ ((found : List Found) × (found_in given ≡ Ok found) × StopsStore found [] fault)
    ⊎ ((found : List Found) × (why : StubFault) × (found_in given ≡ Ok found) × IsUnmade asked (supplied found []) why × (fault ≡ Stub why))
    ⊎ (fault ≡ OutOfMemory)

-- the answer for stubs: all were written, or one wasn't
abbrev pub WritesStubs : {F : Type 0} → FilesPort F → F → F → List StubFileIs → Answer → Type 0
WritesStubs port before after stubs answer = WritesThenAnswers port before after (map stub_written stubs) (answer_done (written_text stubs)) answer

-- the answer for files that were read
abbrev pub StubsGiven : {F : Type 0} → FilesPort F → F → F → StubsOf → List Given → Answer → Type 0
StubsGiven port before after asked given answer =
    ((found : List Found) × (stubs : List MadeStub) × (found_in given ≡ Ok found) × AreFound asked (supplied found []) stubs
    × WritesStubs port before after (map (stub_file (folder_in asked.out)) stubs) answer)
    ⊎ ((fault : Fault) × RefusesStubs asked given fault × (after ≡ before) × (answer ≡ fault_answer fault))

-- the answer of `stubs`
abbrev pub StubsAnswers : {F : Type 0} → FilesPort F → F → F → StubsOf → Answer → Type 0
StubsAnswers {F} port before after asked answer =
    ((given : List Given) × (between : F) × WereGathered port before between (map wanted_root asked.files) given × StubsGiven port between after asked given answer)
    ⊎ ((fault : Fault) × StopsGathering port before after (map wanted_root asked.files) fault × (answer ≡ fault_answer fault))
