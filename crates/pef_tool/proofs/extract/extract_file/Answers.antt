-- FILE is read, and its container is found and written.
use Rattle.std.proofs.Common.{Ok, refl, subst, sym}
use Rattle.pef_ports.specs.Ports.{FilesPort, Reads}
use Rattle.pef_tool.specs.Answers.Faults.{fault_answer}
use Rattle.pef_tool.specs.Extract.{refuses}
use Rattle.pef_tool.proofs.ExtractLemmas.{ends}
use Rattle.pef_tool.proofs.OutcomeLemmas.{extract_refuses}
use Rattle.pef_tool.proofs.extract.extract_file.Goals as goal

pub returns-in-Err : goal.returns-in-Err
returns-in-Err g c =
    let why = c.in-Err.fault in
    let asked = c.args.asked in
    let refused = extract_refuses _ c.args.files.now c.read_file.new.files asked.path.now asked.name.now asked.target.now why c.in-Err.ensures.refused in
    (fault_answer why, (refuses why, refused, refl), c.deliver.ensures)

pub returns-in-Ok : goal.returns-in-Ok
returns-in-Ok g c =
    let port : FilesPort _ = record { state = g.F.Files.state; reason = g.F.Files.reason; was_read = g.F.Files.was_read; was_written = g.F.Files.was_written } in
    let asked = c.args.asked in
    let reads = subst (λ bytes. Reads port c.args.files.now c.read_file.new.files asked.path.now (Ok bytes)) (sym c.as_slice.ensures.value) c.in-Ok.ensures.read in
    let answered = ends port asked.path.now c.args.files.now c.read_file.new.files c.extract_read.new.files asked.name.now asked.target.now c.as_slice.result.now c.extract_read.ensures.0 reads c.extract_read.ensures.1 in
    (c.extract_read.ensures.0, answered, c.extract_read.ensures.2)
