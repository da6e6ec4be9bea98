-- Each symbol sends its object.
use Rattle.std.proofs.Common.{◌<◌, ◌≤◌, arith, length, true}
use Rattle.std.proofs.lemmas.List.{at_drop_all}
use Rattle.pef_format.specs.Exports.{export_seen}
use Rattle.pef_ports.proofs.Laws.Sending.{Sends-short, sent-all, sent-nothing, sent-piece, sent-short}
use Rattle.cfm_rows.specs.Symbols.{symbol_objects}
use Rattle.cfm_rows.proofs.SymbolLemmas.{objects-more}
use Rattle.cfm_rows.proofs.symbols.print_symbol_objects.Goals as goal

pub loop-k-init : goal.loop-k-init
loop-k-init g c = sent-nothing (g.W.Sink.stream c.args.out.now) c.args.page.now.items (symbol_objects true c.args.stub.now.exports)

pub loop-k-preserved : goal.loop-k-preserved
loop-k-preserved g c =
    let exports = c.args.stub.now.exports in
    let under : c.loop-k.k < length exports = omega (arith, c.loop-k-test.true, c.len-k-end.ensures) in
    sent-piece _ c.loop-k.invariant (objects-more exports c.loop-k.k (export_seen c.in-Some.symbol) c.loop-k.is_first under c.in-Some.ensures) c.in_ok-print_element.ensures

pub returns-in_err-print_element : goal.returns-in_err-print_element
returns-in_err-print_element g c =
    let exports = c.args.stub.now.exports in
    let under : c.loop-k.k < length exports = omega (arith, c.loop-k-test.true, c.len-k-end.ensures) in
    Sends-short _ c.from_residual.result _ c.from_residual.ensures.1
    (sent-short _ c.loop-k.invariant (objects-more exports c.loop-k.k (export_seen c.in-Some.symbol) c.loop-k.is_first under c.in-Some.ensures) c.in_err-print_element.ensures)

pub returns : goal.returns
returns g c =
    let exports = c.args.stub.now.exports in
    let past : length exports ≤ c.loop-k.k = omega (arith, c.loop-k-test.false, c.len-k-end.ensures) in
    sent-all c.loop-k.invariant (at_drop_all (symbol_objects c.loop-k.is_first) exports c.loop-k.k past)
