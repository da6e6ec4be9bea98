use Rattle.std.proofs.Common.{◌≡◌, drop, map}
use Rattle.pef_report.specs.Inspection.{members_text}
use Rattle.pef_report.specs.Members.{member_seen}
use Rattle.pef_report.specs.Views.{readable}
use Rattle.pef_ports.proofs.Laws.Sending.{IsSentUpTo}
use Rattle.pef_report.proofs.members.print_members.Given as goal

abbrev pub invariant-loop-member : goal.invariant-loop-member
invariant-loop-member g l = record {
  sent : IsSentUpTo (g.W.Sink.stream l.fn.out) (g.W.Sink.stream l.out) l.fn.page.items l.page.items
      (members_text l.most (readable l.fn.reading) (map member_seen l.members))
      (members_text l.most (readable l.fn.reading) (map member_seen (drop l.member-index l.members)));
  same : readable l.reading ≡ readable l.fn.reading;
}
