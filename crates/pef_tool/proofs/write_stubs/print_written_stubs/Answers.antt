-- Each of them sends its part.
use Rattle.std.proofs.Common.{◌+◌, ◌++◌, ◌∙◌, drop, ap, sym, List, ℕ, map}
use Rattle.std.proofs.lemmas.List.{at_drop_more, drop_all}
use Rattle.pef_ports.proofs.Laws.Sending.{Sends-short, sent-all, sent-nothing, sent-piece, sent-short}
use Rattle.cfm_rows.specs.Symbols.{symbol_lines}
use Rattle.pef_tool.specs.Kept.StubFiles.{file_seen}
use Rattle.pef_tool.specs.WriteStubs.{written_line, written_text}
use Rattle.pef_tool.specs.declared.write_stubs.StubFile.{StubFile}
use Rattle.pef_tool.proofs.write_stubs.print_written_stubs.Goals as goal

abbrev files_text : List StubFile → List ℕ
files_text files = written_text (map file_seen files)

pub loop-file-init : goal.loop-file-init
loop-file-init g c = sent-nothing (g.W.Sink.stream c.args.out.now) c.args.page.now.items (files_text c.args.stubs.now)

pub returns-in_err-print_written : goal.returns-in_err-print_written
returns-in_err-print_written g c =
    let at = c.loop-file in
    let rest = files_text (drop (at.file-index + 1) c.args.stubs.now) in
    let next = at_drop_more (files_text) c.args.stubs.now at.file-index c.file-item.result c.loop-file-test.true ∙ ap (λ (s : StubFile). (written_line (file_seen s) ++ symbol_lines (file_seen s).stub.exports) ++ rest) (sym c.file-item.is) in
    Sends-short _ c.from_residual.result _ c.from_residual.ensures.1 (sent-short rest at.invariant next c.in_err-print_written.ensures)

pub loop-file-preserved : goal.loop-file-preserved
loop-file-preserved g c =
    let at = c.loop-file in
    let rest = files_text (drop (at.file-index + 1) c.args.stubs.now) in
    let next = at_drop_more (files_text) c.args.stubs.now at.file-index c.file-item.result c.loop-file-test.true ∙ ap (λ (s : StubFile). (written_line (file_seen s) ++ symbol_lines (file_seen s).stub.exports) ++ rest) (sym c.file-item.is) in
    sent-piece rest at.invariant next c.in_ok-print_written.ensures

pub returns : goal.returns
returns g c = sent-all c.loop-file.invariant (ap (files_text) (drop_all c.loop-file.file-index c.args.stubs.now c.loop-file-test.false))
