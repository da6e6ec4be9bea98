-- Each of them sends its part.
use Rattle.std.proofs.Common.{◌+◌, ◌++◌, ◌∙◌, drop, ap, sym}
use Rattle.std.proofs.lemmas.List.{at_drop_more, drop_all}
use Rattle.pef_ports.proofs.Laws.Sending.{Sends-short, sent-all, sent-nothing, sent-piece, sent-short}
use Rattle.cfm_rows.specs.Symbols.{stub_object}
use Rattle.pef_tool.specs.Supplied.{stub_objects}
use Rattle.pef_tool.proofs.supplied.print_stub_objects.Goals as goal

pub loop-stub-init : goal.loop-stub-init
loop-stub-init g c = sent-nothing (g.W.Sink.stream c.args.out.now) c.args.page.now.items (stub_objects c.args.stubs.now)

pub returns-in_err-print_stub_object : goal.returns-in_err-print_stub_object
returns-in_err-print_stub_object g c =
    let at = c.loop-stub in
    let rest = stub_objects (drop (at.stub-index + 1) c.args.stubs.now) in
    let next = at_drop_more (stub_objects) c.args.stubs.now at.stub-index c.stub-item.result c.loop-stub-test.true ∙ ap (λ s. stub_object s ++ rest) (sym c.stub-item.is) in
    Sends-short _ c.from_residual.result _ c.from_residual.ensures.1 (sent-short rest at.invariant next c.in_err-print_stub_object.ensures)

pub loop-stub-preserved : goal.loop-stub-preserved
loop-stub-preserved g c =
    let at = c.loop-stub in
    let rest = stub_objects (drop (at.stub-index + 1) c.args.stubs.now) in
    let next = at_drop_more (stub_objects) c.args.stubs.now at.stub-index c.stub-item.result c.loop-stub-test.true ∙ ap (λ s. stub_object s ++ rest) (sym c.stub-item.is) in
    sent-piece rest at.invariant next c.in_ok-print_stub_object.ensures

pub returns : goal.returns
returns g c = sent-all c.loop-stub.invariant (ap (stub_objects) (drop_all c.loop-stub.stub-index c.args.stubs.now c.loop-stub-test.false))
