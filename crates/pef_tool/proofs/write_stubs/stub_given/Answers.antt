-- The fragments are found, and get stubs.
use Rattle.std.proofs.Common.{List, inr, map, refl, sym, subst}
use Rattle.pef_faults.specs.declared.fault.Fault.{Fault}
use Rattle.pef_gather.specs.Seen.{found_seen, given_seen}
use Rattle.pef_gather.specs.declared.files.Found.{Found}
use Rattle.pef_ports.specs.Ports.{FilesPort}
use Rattle.pef_request.specs.Requests.{stubs_of}
use Rattle.pef_tool.specs.Answers.Faults.{fault_answer}
use Rattle.pef_tool.specs.Kept.StubFiles.{StubsFound}
use Rattle.pef_tool.specs.WriteStubs.{RefusesStubs}
use Rattle.pef_tool.proofs.SupplyLemmas.{find-refuses, stubs-end}
use Rattle.pef_tool.proofs.write_stubs.stub_given.Goals as goal

pub returns-in-Err : goal.returns-in-Err
returns-in-Err g c =
    let given = map given_seen c.args.given.now in
    let asked = stubs_of c.args.asked.now in
    let why = c.gather_fault.result in
    let Q : Fault → Type 0 = λ f. RefusesStubs asked given f in
    (fault_answer why, inr (why, subst Q (sym c.gather_fault.ensures) (find-refuses given asked c.in-Err.fault c.in-Err.ensures), refl, refl), c.deliver.ensures)

pub returns : goal.returns
returns g c =
    let port : FilesPort _ = record { state = g.F.Files.state; reason = g.F.Files.reason; was_read = g.F.Files.was_read; was_written = g.F.Files.was_written } in
    let given = map given_seen c.args.given.now in
    let asked = stubs_of c.args.asked.now in
    let answer = c.stub_found.ensures.0 in
    let P : List Found → Type 0 = λ fs. StubsFound port c.args.files.now c.stub_found.new.files asked (map found_seen fs) answer in
    (answer, stubs-end port c.args.files.now c.stub_found.new.files asked given (map found_seen c.in-Ok.found.items) answer c.in-Ok.ensures (subst P c.as_slice.ensures.value c.stub_found.ensures.1), c.stub_found.ensures.2)
