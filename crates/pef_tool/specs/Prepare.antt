-- The answer of `prepare [NAME=]FILE ..` (docs/USAGE.md). It reads the files, gathers their fragments, makes stubs of the libraries
-- that these lack, prepares the root in a store of both, writes the files of its closure's sections if it is asked for them, and prints the
-- memory of its closure.
use Rattle.std.specs.Prelude.{◌≡◌, ◌⊎◌, ℕ, ◌+◌, ◌<◌, ◌≤◌, ◌++◌, true, false, List, [], ◌∷◌, Option, None, Some, Ok, Err, length, map}
use Rattle.cfm_files.specs.Sections.{section_files}
use Rattle.cfm_prepare.specs.Contexts.{ContextState, fresh_state}
use Rattle.cfm_prepare.specs.Steps.{MayNotPrepare, Prepares}
use Rattle.cfm_prepare.specs.declared.fault.PrepareFault.{PrepareFault}
use Rattle.cfm_prepare.specs.declared.fault.PrepareFault.TheVariants.{RootMissing}
use Rattle.cfm_store.specs.Limits.{most_pairs}
use Rattle.cfm_store.specs.Stores.{Pair}
use Rattle.cfm_stubs.specs.Lacking.{lacking_in, loaders_in, wanted}
use Rattle.cfm_stubs.specs.NumberStubs.{MadeStub}
use Rattle.cfm_stubs.specs.Stubs.{FailsAs}
use Rattle.cfm_stubs.specs.Values.{AreStubs, refusals}
use Rattle.cfm_stubs.specs.declared.fault.StubFault.{StubFault}
use Rattle.cfm_stubs.specs.declared.values.StubValues.{StubValues}
use Rattle.cfm_stubs.specs.declared.values.StubValues.TheVariants.{Numbers}
use Rattle.pef_faults.specs.declared.fault.Fault.{Fault}
use Rattle.pef_faults.specs.declared.fault.Fault.TheVariants.{OutOfMemory, Prepare, StoreFull, Stub, Untold}
use Rattle.pef_gather.specs.Gathered.{Found, Given, Refusal, gathered, root_missing, untold}
use Rattle.pef_gather.specs.Stores.{supplied}
use Rattle.pef_ports.specs.Ports.{FilesPort}
use Rattle.pef_request.specs.Requests.{Preparation, PreparedAs, as_json, as_lines, with_bytes, with_files}
use Rattle.pef_request.specs.declared.prepare.Stubbing.{Stubbing}
use Rattle.pef_request.specs.declared.prepare.Stubbing.TheVariants.{Nothing, Required, All}
use Rattle.pef_tool.specs.Answers.Answers.{Answer, answer_done}
use Rattle.pef_tool.specs.Answers.Faults.{fault_answer}
use Rattle.pef_tool.specs.Gathering.{StopsGathering, WantedIs, WereGathered, wanted_library, wanted_root}
use Rattle.pef_tool.specs.Limits.{memory_limit}
use Rattle.pef_tool.specs.Loaded.{order_in}
use Rattle.pef_tool.specs.Supplied.{prepared_text}
use Rattle.pef_tool.specs.Writing.{WritesThenAnswers}

-- the files that are read, in this order: those that may have the root, and then those with libraries only. A folder of libraries
-- is read as a file, and is none
abbrev pub wanted_files : Preparation → List WantedIs
wanted_files asked = map wanted_root asked.files ++ map wanted_library (asked.libraries ++ asked.folders)

-- the numbers of the stubs' symbols: F0000000 and each later one 16 more
abbrev pub stub_numbers : StubValues
stub_numbers = Numbers 0xF0000000 16

-- the stubs of what a store lacks: all, or those of libraries that some fragment can't do without, or none
abbrev pub AreMade : Stubbing → List Pair → List MadeStub → Type 0
AreMade Nothing pairs stubs = stubs ≡ []
AreMade Required pairs stubs = AreStubs stub_numbers (loaders_in pairs) (wanted false (lacking_in pairs)) stubs
AreMade All pairs stubs = AreStubs stub_numbers (loaders_in pairs) (wanted true (lacking_in pairs)) stubs

-- why there are none
abbrev pub AreNotMade : Stubbing → List Pair → StubFault → Type 0
AreNotMade Nothing pairs fault = ⊥
AreNotMade Required pairs fault = FailsAs fault (refusals stub_numbers (loaders_in pairs) (wanted false (lacking_in pairs)))
AreNotMade All pairs fault = FailsAs fault (refusals stub_numbers (loaders_in pairs) (wanted true (lacking_in pairs)))

-- the name of the root, which is the first of the fragments
abbrev pub root_name : List Found → List ℕ
root_name [] = []
root_name (f ∷ found) = f.candidate.name

-- the fragments of some files have these stubs, and both are few enough for a store
pub record AreSupplied (given : List Given) (root : Option (List ℕ)) (stubbing : Stubbing) (found : List Found) (stubs : List MadeStub) : Type 0 where
  pub gathered : gathered given root ≡ Ok found
  pub made : AreMade stubbing (supplied found []) stubs
  pub few : length found + length stubs ≤ most_pairs

-- an error is that of a refusal
abbrev pub IsRefusal : Fault → Refusal → Type 0
IsRefusal (Untold path fault) refusal = refusal ≡ untold path.now fault
IsRefusal (Prepare RootMissing) refusal = refusal ≡ root_missing
IsRefusal _ refusal = ⊥

-- fragments and stubs are too many for a store, or an allocation failed
abbrev pub StopsStore : List Found → List MadeStub → Fault → Type 0
StopsStore found stubs fault = ((most_pairs < length found + length stubs) × (fault ≡ StoreFull)) ⊎ (fault ≡ OutOfMemory)

-- fragments have no stubs: they are too many themselves, or a library's can't be made
abbrev pub StopsStubs : Stubbing → List Found → Fault → Type 0
StopsStubs stubbing found fault =
    StopsStore found [] fault ⊎ ((why : StubFault) × AreNotMade stubbing (supplied found []) why × (fault ≡ Stub why))

-- why there is no store for some files: no fragments or no root, no stubs, or too many of both
abbrev pub RefusesSupply : List Given → Option (List ℕ) → Stubbing → Fault → Type 0
RefusesSupply given root stubbing fault =
    ((refusal : Refusal) × (gathered given root ≡ Err refusal) × IsRefusal fault refusal)
    ⊎ ((found : List Found) × (gathered given root ≡ Ok found) × StopsStubs stubbing found fault)
    ⊎ ((found : List Found) × (stubs : List MadeStub) × (gathered given root ≡ Ok found) × AreMade stubbing (supplied found []) stubs × StopsStore found stubs fault)
    ⊎ (fault ≡ OutOfMemory)

-- the folder that gets the files of sections, if they are asked for
abbrev pub files_folder : PreparedAs → Option (List ℕ)
files_folder as_lines = None
files_folder as_json = None
files_folder with_bytes = None
files_folder (with_files folder) = Some folder

-- the answer for a connection that was prepared, by the folder of files and by what is printed: the files are written first. Before the
-- first of them is, an allocation may fail
abbrev pub AnswersPrepared : {F : Type 0} → FilesPort F → F → F → Option (List ℕ) → ContextState → ℕ → List ℕ → Answer → Type 0
AnswersPrepared port before after None s number text answer = (after ≡ before) × (answer ≡ answer_done text)
AnswersPrepared port before after (Some folder) s number text answer =
    WritesThenAnswers port before after (section_files s folder (order_in s number)) (answer_done text) answer
    ⊎ ((after ≡ before) × (answer ≡ fault_answer OutOfMemory))

-- the answer for fragments with stubs: the root is prepared in a store of them, as a connection with a number in a context with a
-- state, or it isn't
abbrev pub PreparesFrom : {F : Type 0} → FilesPort F → F → F → PreparedAs → List Found → List MadeStub → Answer → Type 0
PreparesFrom port before after form found stubs answer =
    ((s : ContextState) × (number : ℕ) × Prepares (fresh_state (supplied found stubs) memory_limit) (root_name found) number s
    × AnswersPrepared port before after (files_folder form) s number (prepared_text form s number found stubs) answer)
    ⊎ ((fault : PrepareFault) × MayNotPrepare (fresh_state (supplied found stubs) memory_limit) (root_name found) fault × (after ≡ before) × (answer ≡ fault_answer (Prepare fault)))

-- the answer for files that were read
abbrev pub PreparesGiven : {F : Type 0} → FilesPort F → F → F → Preparation → List Given → Answer → Type 0
PreparesGiven port before after asked given answer =
    ((found : List Found) × (stubs : List MadeStub) × AreSupplied given asked.root asked.stubs found stubs × PreparesFrom port before after asked.form found stubs answer)
    ⊎ ((fault : Fault) × RefusesSupply given asked.root asked.stubs fault × (after ≡ before) × (answer ≡ fault_answer fault))

-- the answer of `prepare`
abbrev pub PrepareAnswers : {F : Type 0} → FilesPort F → F → F → Preparation → Answer → Type 0
PrepareAnswers {F} port before after asked answer =
    ((given : List Given) × (between : F) × WereGathered port before between (wanted_files asked) given × PreparesGiven port between after asked given answer)
    ⊎ ((fault : Fault) × StopsGathering port before after (wanted_files asked) fault × (answer ≡ fault_answer fault))
