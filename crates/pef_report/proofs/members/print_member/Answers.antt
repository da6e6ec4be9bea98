-- The key and the elements.
use Rattle.std.proofs.Common.{◌≡◌, ◌-◌, arith}
use Rattle.pef_report.specs.Inspection.{object_count}
use Rattle.pef_report.specs.Views.{readable}
use Rattle.pef_ports.proofs.Laws.Sending.{Sends-short, Sends-then, StopsShort-longer}
use Rattle.pef_report.proofs.members.print_member.Goals as goal

pub returns-in_err-send-clause-sends : goal.returns-in_err-send-clause-sends
returns-in_err-send-clause-sends g c = Sends-short _ c.from_residual.result _ c.from_residual.ensures.1 (StopsShort-longer _ c.in_err-send.ensures)

pub returns-clause-sends : goal.returns-clause-sends
returns-clause-sends g c =
    let n = object_count c.args.most (readable c.args.reading.now) c.args.member.part in
    let all : n - 0 ≡ n = omega arith in
    Sends-then c.print_elements.result (g.W.Sink.stream c.print_elements.new.out) _ _ c.in_ok-send.ensures (rw (c.object_count.ensures, all) at c.print_elements.ensures.sends)
