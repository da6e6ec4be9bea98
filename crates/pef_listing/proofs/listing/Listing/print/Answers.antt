-- Lines are sent one after the other.
use Rattle.pef_ports.proofs.Laws.Sending.{Sends-short, sent-all, sent-nothing}
use Rattle.pef_listing.specs.Left.{lines_left}
use Rattle.pef_listing.proofs.ReaderLemmas.{next-sent, next-short}
use Rattle.pef_listing.proofs.listing.Listing.print.Goals as goal

pub each-init : goal.each-init
each-init g c = record {
  sent = rw (← c.lines-lines.ensures) (sent-nothing (g.W.Sink.stream c.args.out.now) c.args.page.now.items (lines_left c.lines-lines.result));
  ended = λ no. absurd (cc no);
}

pub returns-in_err-more : goal.returns-in_err-more
returns-in_err-more g c = Sends-short _ c.from_residual.result _ c.from_residual.ensures.1 (next-short _ c.each.lines c.print_next.new.self c.each.invariant.sent c.in_err-more.ensures.next)

pub each-smaller : goal.each-smaller
each-smaller g c = rw c.each-test.true (next-sent c.in_ok-more.more c.each.lines c.print_next.new.self c.each.invariant.sent c.in_ok-more.ensures.next).2

pub each-preserved : goal.each-preserved
each-preserved g c =
    let next = next-sent c.in_ok-more.more c.each.lines c.print_next.new.self c.each.invariant.sent c.in_ok-more.ensures.next in
    record { sent = next.0; ended = next.1 }

pub returns : goal.returns
returns g c = sent-all c.each.invariant.sent (c.each.invariant.ended c.each-test.false)
