-- Stubs with the paths of their files, and why there are none.
use Rattle.std.specs.Prelude.{◌≡◌, ◌⊎◌, List, [], map}
use Rattle.cfm_stubs.specs.NumberStubs.{MadeStub}
use Rattle.cfm_stubs.specs.declared.fault.StubFault.{StubFault}
use Rattle.pef_faults.specs.declared.fault.Fault.{Fault}
use Rattle.pef_faults.specs.declared.fault.Fault.TheVariants.{OutOfMemory, Stub}
use Rattle.pef_gather.specs.Gathered.{Found}
use Rattle.pef_gather.specs.Stores.{supplied}
use Rattle.pef_ports.specs.Ports.{FilesPort}
use Rattle.pef_request.specs.Requests.{StubsOf}
use Rattle.pef_tool.specs.Answers.Answers.{Answer}
use Rattle.pef_tool.specs.Answers.Faults.{fault_answer}
use Rattle.pef_tool.specs.Prepare.{StopsStore}
use Rattle.pef_tool.specs.WriteStubs.{AreFound, IsUnmade, StubFileIs, WritesStubs, folder_in, stub_file}
use Rattle.pef_tool.specs.declared.write_stubs.StubFile.{StubFile}

abbrev pub file_seen : StubFile → StubFileIs
file_seen file = record { path = file.path.items; stub = file.stub.now }

-- fragments have no stubs: they are too many themselves, or a library's can't be made
abbrev pub UnmadeStubs : StubsOf → List Found → Fault → Type 0
UnmadeStubs asked found fault = StopsStore found [] fault ⊎ ((why : StubFault) × IsUnmade asked (supplied found []) why × (fault ≡ Stub why))

-- the answer for stubs with the paths of their files, unless an allocation failed before they had them
abbrev pub PlacesStubs : {F : Type 0} → FilesPort F → F → F → List StubFileIs → Answer → Type 0
PlacesStubs port before after stubs answer = WritesStubs port before after stubs answer ⊎ ((answer ≡ fault_answer OutOfMemory) × (after ≡ before))

-- the answer for fragments, by their stubs
abbrev pub StubsFound : {F : Type 0} → FilesPort F → F → F → StubsOf → List Found → Answer → Type 0
StubsFound port before after asked found answer =
    ((stubs : List MadeStub) × AreFound asked (supplied found []) stubs × PlacesStubs port before after (map (stub_file (folder_in asked.out)) stubs) answer)
    ⊎ ((why : Fault) × UnmadeStubs asked found why × (after ≡ before) × (answer ≡ fault_answer why))
