-- The bytes so far were sent.
use Rattle.std.proofs.Common.{drop}
use Rattle.pef_ports.proofs.Laws.Sending.{IsSentUpTo}
use Rattle.cfm_files.specs.Paths.{file_name}
use Rattle.pef_rows.specs.Tokens.{path_text}
use Rattle.cfm_rows.proofs.sections.print_file_name.Given as goal

abbrev pub invariant-loop-b : goal.invariant-loop-b
invariant-loop-b g l = IsSentUpTo (g.W.Sink.stream l.fn.out) (g.W.Sink.stream l.out) l.fn.page.items l.page.items
    (path_text (file_name l.fragment)) (path_text (file_name (drop l.b-index l.fragment)))
