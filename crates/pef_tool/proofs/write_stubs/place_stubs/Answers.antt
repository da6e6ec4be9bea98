-- The stubs have the paths of their files, or an allocation failed.
use Rattle.std.proofs.Common.{◌∙◌, List, ap, inl, inr, map, refl, subst}
use Rattle.pef_faults.specs.declared.fault.Fault.TheVariants.{OutOfMemory}
use Rattle.pef_ports.specs.Ports.{FilesPort}
use Rattle.pef_tool.specs.Answers.Faults.{fault_answer}
use Rattle.pef_tool.specs.Kept.StubFiles.{file_seen}
use Rattle.pef_tool.specs.WriteStubs.{StubFileIs, WritesStubs}
use Rattle.pef_tool.specs.declared.write_stubs.StubFile.{StubFile}
use Rattle.pef_tool.proofs.write_stubs.place_stubs.Goals as goal

pub returns-in-Ok : goal.returns-in-Ok
returns-in-Ok g c =
    let port : FilesPort _ = record { state = g.F.Files.state; reason = g.F.Files.reason; was_read = g.F.Files.was_read; was_written = g.F.Files.was_written } in
    let answer = c.write_stubs.ensures.0 in
    let placed = ap (λ (fs : List StubFile). map file_seen fs) c.as_slice.ensures.value ∙ c.in-Ok.ensures in
    let P : List StubFileIs → Type 0 = λ ss. WritesStubs port c.args.files.now c.write_stubs.new.files ss answer in
    (answer, inl (subst P placed c.write_stubs.ensures.1), c.write_stubs.ensures.2)

pub returns-in-Err : goal.returns-in-Err
returns-in-Err g c = (fault_answer OutOfMemory, inr (refl, refl), c.deliver.ensures)
