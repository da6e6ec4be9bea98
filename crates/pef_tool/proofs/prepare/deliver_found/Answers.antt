-- The fragments get stubs, or they get none.
use Rattle.std.proofs.Common.{List, inl, inr, map, refl, subst}
use Rattle.cfm_stubs.specs.NumberStubs.{MadeStub}
use Rattle.pef_gather.specs.Seen.{found_seen}
use Rattle.pef_ports.specs.Ports.{FilesPort}
use Rattle.pef_request.specs.Requests.{form_of}
use Rattle.pef_tool.specs.Answers.Faults.{fault_answer}
use Rattle.pef_tool.specs.Kept.Supplying.{SuppliedEnds}
use Rattle.pef_tool.proofs.prepare.deliver_found.Goals as goal

pub returns-in-Ok : goal.returns-in-Ok
returns-in-Ok g c =
    let port : FilesPort _ = record { state = g.F.Files.state; reason = g.F.Files.reason; was_read = g.F.Files.was_read; was_written = g.F.Files.was_written } in
    let found = map found_seen c.args.found.now in
    let answer = c.deliver_supplied.ensures.0 in
    let P : List MadeStub → Type 0 = λ ss. SuppliedEnds port c.args.files.now c.deliver_supplied.new.files (form_of c.args.asked.now.form) found ss answer in
    (answer, inl (c.in-Ok.stubs.items, c.in-Ok.ensures.made, subst P c.as_slice.ensures.value c.deliver_supplied.ensures.1), c.deliver_supplied.ensures.2)

pub returns-in-Err : goal.returns-in-Err
returns-in-Err g c = (fault_answer c.in-Err.fault, inr (c.in-Err.fault, c.in-Err.ensures.refused, refl, refl), c.deliver.ensures)
