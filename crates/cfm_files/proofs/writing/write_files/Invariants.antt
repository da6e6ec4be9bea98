-- The first files were written.
use Rattle.std.proofs.Common.{map, take}
use Rattle.cfm_files.specs.Writing.{WereWritten}
use Rattle.cfm_files.proofs.writing.write_files.Given as goal

abbrev pub invariant-loop-file : goal.invariant-loop-file
invariant-loop-file g l = WereWritten (record { state = g.F.Files.state; reason = g.F.Files.reason; was_read = g.F.Files.was_read; was_written = g.F.Files.was_written }) l.fn.files l.files (map g.T.FileToWrite.file (take l.file-index l.written))
