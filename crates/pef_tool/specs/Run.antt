-- The answer of a run. Each command has a line here, and its answers in a file of their own.
use Rattle.std.specs.Prelude.{◌≡◌, ◌⊎◌, Option, None, Some}
use Rattle.pef_ports.specs.Ports.{FilesPort, Stream}
use Rattle.pef_request.specs.Requests.{Asked, check, distances, extract, inspect, inspect_listed, inspect_pair, link, list, load, prepare, show, stubs, version}
use Rattle.pef_tool.specs.Answers.Answers.{Answer, answer_usage}
use Rattle.pef_tool.specs.Load.{LoadAnswers}
use Rattle.pef_tool.specs.Show.{ShowAnswers}
use Rattle.pef_tool.specs.Check.{CheckAnswers}
use Rattle.pef_tool.specs.Distances.{DistancesAnswers}
use Rattle.pef_tool.specs.Extract.{ExtractAnswers}
use Rattle.pef_tool.specs.Inspect.{InspectAnswers, InspectListedAnswers, InspectPairAnswers}
use Rattle.pef_tool.specs.Link.{LinkAnswers}
use Rattle.pef_tool.specs.List.{ListAnswers}
use Rattle.pef_tool.specs.Prepare.{PrepareAnswers}
use Rattle.pef_tool.specs.Version.{VersionAnswers}
use Rattle.pef_tool.specs.WriteStubs.{StubsAnswers}
use Rattle.pef_tool.specs.Answers.Faults.{fault_answer}
use Rattle.pef_faults.specs.declared.fault.Fault.TheVariants.{OutOfMemory}

-- the answer to words that are no command. Before that is known, an allocation may fail.
abbrev pub UsageAnswers : Answer → Type 0
UsageAnswers answer = (answer ≡ answer_usage) ⊎ (answer ≡ fault_answer OutOfMemory)

-- the answer of a run, by its command line, and by the states of the files and the input before and after. Those that a
-- command doesn't use are unchanged.
abbrev pub RunAnswers : {F R : Type 0} → FilesPort F → (R → Stream) → Option Asked → F → F → R → R → Answer → Type 0
RunAnswers port stream None files files' input input' answer = UsageAnswers answer × (files' ≡ files) × (input' ≡ input)
RunAnswers port stream (Some show) files files' input input' answer = ShowAnswers (stream input) (stream input') answer × (files' ≡ files)
RunAnswers port stream (Some (link script out)) files files' input input' answer = LinkAnswers port files files' script out answer × (input' ≡ input)
RunAnswers port stream (Some (list path)) files files' input input' answer = ListAnswers port files files' path answer × (input' ≡ input)
RunAnswers port stream (Some (check script cert)) files files' input input' answer = CheckAnswers port files files' script cert answer × (input' ≡ input)
RunAnswers port stream (Some (load named)) files files' input input' answer = LoadAnswers port files files' named answer × (input' ≡ input)
RunAnswers port stream (Some (distances script)) files files' input input' answer = DistancesAnswers port files files' script answer × (input' ≡ input)
RunAnswers port stream (Some version) files files' input input' answer = VersionAnswers answer × (files' ≡ files) × (input' ≡ input)
RunAnswers port stream (Some (extract path name out)) files files' input input' answer = ExtractAnswers port files files' path name out answer × (input' ≡ input)
RunAnswers port stream (Some (inspect json paths)) files files' input input' answer = InspectAnswers port stream json files files' input input' paths answer
RunAnswers port stream (Some (inspect_listed json)) files files' input input' answer = InspectListedAnswers port stream json files files' input input' answer
RunAnswers port stream (Some (inspect_pair json resources path)) files files' input input' answer = InspectPairAnswers port stream json files files' input input' resources path answer
RunAnswers port stream (Some (prepare asked)) files files' input input' answer = PrepareAnswers port files files' asked answer × (input' ≡ input)
RunAnswers port stream (Some (stubs asked)) files files' input input' answer = StubsAnswers port files files' asked answer × (input' ≡ input)
