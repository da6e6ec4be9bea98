-- Each export sends its object.
use Rattle.std.proofs.Common.{◌≡◌, ◌<◌, ◌≤◌, ◌==◌, ◌-◌, ap, arith}
use Rattle.pef_loader.specs.Views.{loaded}
use Rattle.pef_ports.proofs.Laws.Sending.{Sends-short, same_printed, same_short, sent-all, sent-nothing, sent-piece, sent-short}
use Rattle.cfm_rows.specs.Exports.{export_element, export_elements}
use Rattle.cfm_rows.proofs.ExportLemmas.{exports-more, exports-none}
use Rattle.cfm_rows.proofs.exports.print_rows.Goals as goal

pub loop-i-init : goal.loop-i-init
loop-i-init g c =
    let count = (loaded c.args.loader.now).header.export_count in
    let place = c.args.place in
    let all : count - 0 ≡ count = omega arith in
    rw all (sent-nothing (g.W.Sink.stream c.args.out.now) c.args.page.now.items (export_elements c.args.context.now place.connection.0 place.position 0 count))

pub loop-i-preserved : goal.loop-i-preserved
loop-i-preserved g c =
    let count = (loaded c.args.loader.now).header.export_count in
    let place = c.args.place in
    let i = c.loop-i.i in
    let under : i < count = omega (arith, c.loop-i-test.true, c.exports-i-end.ensures.count) in
    let next = exports-more c.args.context.now place.connection.0 place.position i count under in
    let row = ap (export_element (i == 0)) c.fragment_export-export.ensures in
    sent-piece _ c.loop-i.invariant next (same_printed row c.in_ok-print_row.ensures)

pub returns-in_err-print_row : goal.returns-in_err-print_row
returns-in_err-print_row g c =
    let count = (loaded c.args.loader.now).header.export_count in
    let place = c.args.place in
    let i = c.loop-i.i in
    let under : i < count = omega (arith, c.loop-i-test.true, c.exports-i-end.ensures.count) in
    let next = exports-more c.args.context.now place.connection.0 place.position i count under in
    let row = ap (export_element (i == 0)) c.fragment_export-export.ensures in
    Sends-short _ c.from_residual.result _ c.from_residual.ensures.1 (sent-short _ c.loop-i.invariant next (same_short row c.in_err-print_row.ensures))

pub returns : goal.returns
returns g c =
    let count = (loaded c.args.loader.now).header.export_count in
    let place = c.args.place in
    let past : count ≤ c.loop-i.i = omega (arith, c.loop-i-test.false, c.exports-i-end.ensures.count) in
    sent-all c.loop-i.invariant (exports-none c.args.context.now place.connection.0 place.position c.loop-i.i count past)
