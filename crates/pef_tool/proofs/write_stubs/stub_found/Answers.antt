-- The fragments get stubs, or they get none.
use Rattle.std.proofs.Common.{◌∙◌, List, ℕ, ap, inl, inr, map, refl, subst}
use Rattle.cfm_stubs.specs.NumberStubs.{MadeStub}
use Rattle.pef_ports.specs.Ports.{FilesPort}
use Rattle.pef_request.specs.Requests.{stubs_of}
use Rattle.pef_tool.specs.Answers.Faults.{fault_answer}
use Rattle.pef_tool.specs.Kept.StubFiles.{PlacesStubs}
use Rattle.pef_tool.specs.WriteStubs.{StubFileIs, folder_in, stub_file}
use Rattle.pef_tool.proofs.write_stubs.stub_found.Goals as goal

pub returns-in-Ok : goal.returns-in-Ok
returns-in-Ok g c =
    let port : FilesPort _ = record { state = g.F.Files.state; reason = g.F.Files.reason; was_read = g.F.Files.was_read; was_written = g.F.Files.was_written } in
    let asked = stubs_of c.args.asked.now in
    let answer = c.place_stubs.ensures.0 in
    let placed = ap (λ (folder : List ℕ). map (stub_file folder) c.as_slice.result.now) c.folder_in.ensures ∙ ap (λ (ss : List MadeStub). map (stub_file (folder_in asked.out)) ss) c.as_slice.ensures.value in
    let P : List StubFileIs → Type 0 = λ ss. PlacesStubs port c.args.files.now c.place_stubs.new.files ss answer in
    (answer, inl (c.in-Ok.stubs.items, c.in-Ok.ensures.made, subst P placed c.place_stubs.ensures.1), c.place_stubs.ensures.2)

pub returns-in-Err : goal.returns-in-Err
returns-in-Err g c = (fault_answer c.in-Err.fault, inr (c.in-Err.fault, c.in-Err.ensures.refused, refl, refl), c.deliver.ensures)
