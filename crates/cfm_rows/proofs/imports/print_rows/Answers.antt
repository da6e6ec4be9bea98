-- Each import sends its object.
use Rattle.std.proofs.Common.{◌≡◌, ◌<◌, ◌≤◌, ◌==◌, ◌-◌, ap, ap₂, ◌∙◌, arith}
use Rattle.pef_loader.specs.Loader.{import_of}
use Rattle.pef_loader.specs.Views.{loaded}
use Rattle.pef_ports.proofs.Laws.Sending.{Sends-short, same_printed, same_short, sent-all, sent-nothing, sent-piece, sent-short}
use Rattle.cfm_rows.specs.Imports.{import_element, import_elements, import_is}
use Rattle.cfm_rows.proofs.ImportLemmas.{imports-more, imports-none}
use Rattle.cfm_rows.proofs.imports.print_rows.Goals as goal

pub loop-j-init : goal.loop-j-init
loop-j-init g c =
    let l = loaded c.args.loader in
    let place = c.args.place in
    let all : l.header.import_count - 0 ≡ l.header.import_count = omega arith in
    record {
      sent = rw all (sent-nothing (g.W.Sink.stream c.args.out.now) c.args.page.now.items (import_elements c.args.context.now place.connection.0 place.position l 0 l.header.import_count));
      same = c.new-imports.ensures;
    }

pub loop-j-preserved : goal.loop-j-preserved
loop-j-preserved g c =
    let l = loaded c.args.loader in
    let place = c.args.place in
    let j = c.loop-j.j in
    let under : j < l.header.import_count = omega (arith, c.loop-j-test.true, c.imports-j-end.ensures.count) in
    let next = imports-more c.args.context.now place.connection.0 place.position l j l.header.import_count under in
    let read = c.import.ensures.value ∙ ap (λ r. import_of (loaded r) j) c.loop-j.invariant.same in
    let row = ap (import_element (j == 0)) (c.import_row-import.ensures ∙ ap₂ (import_is l) c.address_of-address.ensures read) in
    record {
      sent = sent-piece _ c.loop-j.invariant.sent next (same_printed row c.in_ok-print_row.ensures);
      same = c.import.ensures.same ∙ c.loop-j.invariant.same;
    }

pub returns-in_err-print_row : goal.returns-in_err-print_row
returns-in_err-print_row g c =
    let l = loaded c.args.loader in
    let place = c.args.place in
    let j = c.loop-j.j in
    let under : j < l.header.import_count = omega (arith, c.loop-j-test.true, c.imports-j-end.ensures.count) in
    let next = imports-more c.args.context.now place.connection.0 place.position l j l.header.import_count under in
    let read = c.import.ensures.value ∙ ap (λ r. import_of (loaded r) j) c.loop-j.invariant.same in
    let row = ap (import_element (j == 0)) (c.import_row-import.ensures ∙ ap₂ (import_is l) c.address_of-address.ensures read) in
    Sends-short _ c.from_residual.result _ c.from_residual.ensures.1 (sent-short _ c.loop-j.invariant.sent next (same_short row c.in_err-print_row.ensures))

pub returns : goal.returns
returns g c =
    let l = loaded c.args.loader in
    let place = c.args.place in
    let past : l.header.import_count ≤ c.loop-j.j = omega (arith, c.loop-j-test.false, c.imports-j-end.ensures.count) in
    sent-all c.loop-j.invariant.sent (imports-none c.args.context.now place.connection.0 place.position l c.loop-j.j l.header.import_count past)
