-- Each row sends its object.
use Rattle.std.proofs.Common.{◌∙◌, ◌-◌, ◌<◌, ◌≤◌, arith, refl}
use Rattle.pef_report.specs.Inspection.{elements}
use Rattle.pef_report.specs.Views.{readable}
use Rattle.pef_report.proofs.Merging.{elements-next, elements-none}
use Rattle.pef_ports.proofs.Laws.Sending.{Sends-short, sent-all, sent-nothing, sent-piece, sent-short}
use Rattle.pef_report.proofs.members.print_elements.Goals as goal

pub loop-i-init : goal.loop-i-init
loop-i-init g c = record {
  sent = sent-nothing (g.W.Sink.stream c.args.out.now) c.args.page.now.items (elements (readable c.args.reading.now) c.args.rows.part c.args.rows.from (c.args.rows.end - c.args.rows.from));
  same = refl;
}

pub loop-i-preserved : goal.loop-i-preserved
loop-i-preserved g c =
    let r = readable c.args.reading.now in
    let rows = c.args.rows in
    let at = c.loop-i in
    let under : at.i < rows.end = omega arith in
    record {
      sent = sent-piece _ at.invariant.sent (elements-next r rows.part at.i rows.end under) (rw at.invariant.same at c.in_ok-print_element.ensures.sends);
      same = c.in_ok-print_element.ensures.same ∙ at.invariant.same;
    }

pub returns-in_err-print_element-clause-sends : goal.returns-in_err-print_element-clause-sends
returns-in_err-print_element-clause-sends g c =
    let r = readable c.args.reading.now in
    let rows = c.args.rows in
    let at = c.loop-i in
    let under : at.i < rows.end = omega arith in
    Sends-short _ c.from_residual.result _ c.from_residual.ensures.1 (sent-short _ at.invariant.sent (elements-next r rows.part at.i rows.end under) (rw at.invariant.same at c.in_err-print_element.ensures.sends))

pub returns-clause-sends : goal.returns-clause-sends
returns-clause-sends g c =
    let r = readable c.args.reading.now in
    let rows = c.args.rows in
    let past : rows.end ≤ c.loop-i.i = omega arith in
    sent-all c.loop-i.invariant.sent (elements-none r rows.part c.loop-i.i rows.end past)
