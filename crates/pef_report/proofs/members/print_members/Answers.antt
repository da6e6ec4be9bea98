-- Each member sends its key and its elements.
use Rattle.std.proofs.Common.{◌+◌, ◌∙◌, ap, drop, map, refl}
use Rattle.std.proofs.lemmas.List.{at_drop_more, drop_all}
use Rattle.pef_report.specs.Inspection.{members_text}
use Rattle.pef_report.specs.Members.{member_seen}
use Rattle.pef_report.specs.Views.{readable}
use Rattle.pef_report.proofs.Merging.{no_member}
use Rattle.pef_ports.proofs.Laws.Sending.{Sends-short, sent-all, sent-nothing, sent-piece, sent-short}
use Rattle.pef_report.proofs.members.print_members.Goals as goal

pub loop-member-init : goal.loop-member-init
loop-member-init g c = record {
  sent = sent-nothing (g.W.Sink.stream c.args.out.now) c.args.page.now.items (members_text c.args.most (readable c.args.reading.now) (map member_seen c.args.members.now));
  same = refl;
}

pub loop-member-preserved : goal.loop-member-preserved
loop-member-preserved g c =
    let at = c.loop-member in
    let r = readable c.args.reading.now in
    let members = c.args.members.now in
    let next = at_drop_more (λ ms. members_text c.args.most r (map member_seen ms)) members at.member-index no_member c.loop-member-test.true in
    record {
      sent = sent-piece (members_text c.args.most r (map member_seen (drop (at.member-index + 1) members))) at.invariant.sent next (rw at.invariant.same at c.in_ok-print_member.ensures.sends);
      same = c.in_ok-print_member.ensures.same ∙ at.invariant.same;
    }

pub returns-in_err-print_member : goal.returns-in_err-print_member
returns-in_err-print_member g c =
    let at = c.loop-member in
    let r = readable c.args.reading.now in
    let members = c.args.members.now in
    let next = at_drop_more (λ ms. members_text c.args.most r (map member_seen ms)) members at.member-index no_member c.loop-member-test.true in
    Sends-short _ c.from_residual.result _ c.from_residual.ensures.1 (sent-short (members_text c.args.most r (map member_seen (drop (at.member-index + 1) members))) at.invariant.sent next (rw at.invariant.same at c.in_err-print_member.ensures.sends))

pub returns : goal.returns
returns g c = sent-all c.loop-member.invariant.sent (ap (λ ms. members_text c.args.most (readable c.args.reading.now) (map member_seen ms)) (drop_all c.loop-member.member-index c.args.members.now c.loop-member-test.false))
