-- How fragments with stubs end, and the errors of what is gathered.
use Rattle.std.specs.Prelude.{◌≡◌, ◌⊎◌, ◌+◌, ◌≤◌, ℕ, List, [], length, map}
use Rattle.cfm_prepare.specs.declared.fault.PrepareFault.TheVariants as prepare
use Rattle.cfm_store.specs.Limits.{most_pairs}
use Rattle.cfm_stubs.specs.NumberStubs.{MadeStub}
use Rattle.pef_faults.specs.declared.fault.Fault.{Fault}
use Rattle.pef_faults.specs.declared.fault.Fault.TheVariants as fault
use Rattle.pef_gather.specs.Gathered.{Found}
use Rattle.pef_gather.specs.declared.fault.GatherFault.{GatherFault}
use Rattle.pef_gather.specs.declared.fault.GatherFault.TheVariants.{Untold, RootMissing, StoreFull, OutOfMemory}
use Rattle.pef_gather.specs.Seen.{found_seen}
use Rattle.pef_gather.specs.Stores.{supplied}
use Rattle.pef_ports.specs.Ports.{FilesPort}
use Rattle.pef_request.specs.Requests.{Preparation, PreparedAs, form_of}
use Rattle.pef_tool.specs.Answers.Answers.{Answer}
use Rattle.pef_tool.specs.Answers.Faults.{fault_answer}
use Rattle.pef_tool.specs.Prepare.{AreMade, PreparesFrom, StopsStore, StopsStubs}
use Rattle.pef_tool.specs.Supplied.{prepared_text}
use Rattle.pef_tool.specs.declared.supplied.Supplied.{Supplied}

-- the error of a command
abbrev pub gather_fault : GatherFault → Fault
gather_fault (Untold path why) = fault.Untold path why
gather_fault RootMissing = fault.Prepare prepare.RootMissing
gather_fault StoreFull = fault.StoreFull
gather_fault OutOfMemory = fault.OutOfMemory

-- the answer for fragments and stubs, which may be too many
abbrev pub SuppliedEnds : {F : Type 0} → FilesPort F → F → F → PreparedAs → List Found → List MadeStub → Answer → Type 0
SuppliedEnds port before after form found stubs answer =
    ((length found + length stubs ≤ most_pairs) × PreparesFrom port before after form found stubs answer)
    ⊎ ((why : Fault) × StopsStore found stubs why × (after ≡ before) × (answer ≡ fault_answer why))

-- the answer for fragments, by their stubs
abbrev pub FoundEnds : {F : Type 0} → FilesPort F → F → F → Preparation → List Found → Answer → Type 0
FoundEnds port before after asked found answer =
    ((stubs : List MadeStub) × AreMade asked.stubs (supplied found []) stubs × SuppliedEnds port before after asked.form found stubs answer)
    ⊎ ((why : Fault) × StopsStubs asked.stubs found why × (after ≡ before) × (answer ≡ fault_answer why))

-- the text that is printed of a connection
abbrev pub supplied_text : Supplied → List ℕ
supplied_text it = prepared_text (form_of it.form) it.loaded.context it.loaded.connection.0 (map found_seen it.found.now) it.stubs.now
