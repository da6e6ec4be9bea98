-- The file is read, or not for one of two reasons.
use Rattle.pef_ports.specs.Ports.{FilesPort}
use Rattle.pef_tool.proofs.InspectLemmas.{path_read}
use Rattle.pef_tool.proofs.inspect.read_path.Goals as goal

pub returns : goal.returns
returns g c =
    let port : FilesPort _ = record { state = g.F.Files.state; reason = g.F.Files.reason; was_read = g.F.Files.was_read; was_written = g.F.Files.was_written } in
    path_read port c.args.files.now c.read_file.new.files c.args.path.now c.read_file.result c.read_file.ensures.read c.read_file.ensures.refused
