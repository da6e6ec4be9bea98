-- Each symbol sends its line.
use Rattle.std.proofs.Common.{◌<◌, ◌≤◌, ap, arith, length}
use Rattle.std.proofs.lemmas.List.{at_drop_all}
use Rattle.pef_format.specs.Exports.{export_seen}
use Rattle.pef_ports.proofs.Laws.Sending.{Sends-short, same_printed, same_short, sent-all, sent-nothing, sent-piece, sent-short}
use Rattle.cfm_rows.specs.Symbols.{line_if, symbol_lines}
use Rattle.cfm_rows.proofs.SymbolLemmas.{lines-more}
use Rattle.cfm_rows.proofs.symbols.print_symbol_lines.Goals as goal

pub loop-k-init : goal.loop-k-init
loop-k-init g c = sent-nothing (g.W.Sink.stream c.args.out.now) c.args.page.now.items (symbol_lines c.args.stub.now.exports)

pub loop-k-preserved : goal.loop-k-preserved
loop-k-preserved g c =
    let exports = c.args.stub.now.exports in
    let x = export_seen c.in-Some.symbol in
    let under : c.loop-k.k < length exports = omega (arith, c.loop-k-test.true, c.len-k-end.ensures) in
    let line = ap (λ n. line_if n x.name) c.number_of.ensures in
    sent-piece _ c.loop-k.invariant (lines-more exports c.loop-k.k x under c.in-Some.ensures) (same_printed line c.in_ok-print_line_if.ensures)

pub returns-in_err-print_line_if : goal.returns-in_err-print_line_if
returns-in_err-print_line_if g c =
    let exports = c.args.stub.now.exports in
    let x = export_seen c.in-Some.symbol in
    let under : c.loop-k.k < length exports = omega (arith, c.loop-k-test.true, c.len-k-end.ensures) in
    let line = ap (λ n. line_if n x.name) c.number_of.ensures in
    Sends-short _ c.from_residual.result _ c.from_residual.ensures.1 (sent-short _ c.loop-k.invariant (lines-more exports c.loop-k.k x under c.in-Some.ensures) (same_short line c.in_err-print_line_if.ensures))

pub returns : goal.returns
returns g c =
    let exports = c.args.stub.now.exports in
    let past : length exports ≤ c.loop-k.k = omega (arith, c.loop-k-test.false, c.len-k-end.ensures) in
    sent-all c.loop-k.invariant (at_drop_all symbol_lines exports c.loop-k.k past)
