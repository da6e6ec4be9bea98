-- Lines are sent one after the other, and then the page is written.
use Rattle.std.proofs.Common.{◌∙◌, ◌≤◌, [], length, inl, inr, refl, arith}
use Rattle.pef_ports.proofs.Laws.Sending.{kept-part, sent-nothing}
use Rattle.pef_listing.specs.Left.{lines_left}
use Rattle.pef_listing.proofs.ReaderLemmas.{flushed, kept-longer, next-sent, next-short, on-err, on-ok, text_stream}
use Rattle.pef_listing.proofs.line_reader.LineReader.print_up_to.Goals as goal
use Rattle.pef_listing.proofs.line_reader.LineReader.print_up_to.Goals.{then-lines-test+else-len-wanted, else-lines-test}

pub lines-init : goal.lines-init
lines-init c = record {
  sent = rw c.new-page.ensures (sent-nothing (text_stream c.args.text.now) [] (lines_left c.args.self.now));
  listing = refl;
  ended = λ no. absurd (cc no);
}

pub returns-in_err-more-clause-front : goal.returns-in_err-more-clause-front
returns-in_err-more-clause-front c =
    on-err c.from_residual.result (kept-part c.args.text.now.bytes.items c.print_next.new.out.bytes.items [] (lines_left c.args.self.now) {a = text_stream c.args.text.now} {b = text_stream c.print_next.new.out}
    (next-short _ c.lines.self c.print_next.new.self c.lines.invariant.sent c.in_err-more.ensures.next) refl refl)

pub lines-smaller : goal.lines-smaller
lines-smaller c = rw c.lines-test.true (next-sent c.in_ok-more.more c.lines.self c.print_next.new.self c.lines.invariant.sent c.in_ok-more.ensures.next).2

pub lines-preserved : goal.lines-preserved
lines-preserved c =
    let next = next-sent c.in_ok-more.more c.lines.self c.print_next.new.self c.lines.invariant.sent c.in_ok-more.ensures.next in
    record {
      sent = next.0;
      listing = c.in_ok-more.ensures.same ∙ c.lines.invariant.listing;
      ended = next.1;
    }

pub returns-clause-same : goal.returns-clause-same
returns-clause-same c =
    (flushed c.flush.result (text_stream c.args.text.now) (text_stream c.lines.text) (text_stream c.flush.new.out) c.lines.page.items c.flush.new.page.items (lines_left c.args.self.now) (lines_left c.lines.self) c.args.text.now.bytes.items c.flush.new.out.bytes.items
    c.lines.invariant.sent c.flush.ensures.empty c.flush.ensures.sends refl refl).0

pub returns-clause-enough : goal.returns-clause-enough
returns-clause-enough c =
    let longer : length c.lines.text.bytes.items ≤ length c.flush.new.out.bytes.items = kept-longer c.flush.result (text_stream c.lines.text) (text_stream c.flush.new.out) c.lines.page.items c.flush.new.page.items [] c.lines.text.bytes.items c.flush.new.out.bytes.items c.flush.ensures.sends refl refl in
    on-ok c.flush.result (elim c.lines-test.branch [
      | then-lines-test+else-len-wanted w ↦ inl (omega (arith, longer, w.if-len-wanted.false, w.len.ensures))
      | else-lines-test w ↦ inr (c.lines.invariant.ended w.lines-test.false)
    ])

pub returns-clause-front : goal.returns-clause-front
returns-clause-front c =
    (flushed c.flush.result (text_stream c.args.text.now) (text_stream c.lines.text) (text_stream c.flush.new.out) c.lines.page.items c.flush.new.page.items (lines_left c.args.self.now) (lines_left c.lines.self) c.args.text.now.bytes.items c.flush.new.out.bytes.items
    c.lines.invariant.sent c.flush.ensures.empty c.flush.ensures.sends refl refl).1
