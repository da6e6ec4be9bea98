use Rattle.std.proofs.Common.{map, take}
use Rattle.pef_request.specs.Requests.{named_path}
use Rattle.pef_tool.specs.Load.{WereRead}
use Rattle.pef_tool.proofs.load.read_files.Given as goal

-- the first files were read
abbrev pub invariant-loop-file : goal.invariant-loop-file
invariant-loop-file g l = WereRead (record { state = g.F.Files.state; reason = g.F.Files.reason; was_read = g.F.Files.was_read; was_written = g.F.Files.was_written })
    l.fn.files l.files (map named_path (take l.file-index l.named)) (map (λ bytes. bytes.items) l.contents.items)
