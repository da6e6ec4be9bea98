-- Those so far were sent.
use Rattle.std.proofs.Common.{drop, map}
use Rattle.pef_ports.proofs.Laws.Sending.{IsSentUpTo}
use Rattle.pef_tool.specs.Kept.StubFiles.{file_seen}
use Rattle.pef_tool.specs.WriteStubs.{written_text}
use Rattle.pef_tool.proofs.write_stubs.print_written_stubs.Given as goal

abbrev pub invariant-loop-file : goal.invariant-loop-file
invariant-loop-file g l = IsSentUpTo (g.W.Sink.stream l.fn.out) (g.W.Sink.stream l.out) l.fn.page.items l.page.items
    (written_text (map file_seen l.stubs)) (written_text (map file_seen (drop l.file-index l.stubs)))
