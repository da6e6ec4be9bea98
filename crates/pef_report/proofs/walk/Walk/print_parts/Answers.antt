-- Each kind of rows is printed after the others.
use Rattle.std.proofs.Common.{◌∙◌, ◌+◌, ap, drop, get_or, refl, sym}
use Rattle.std.proofs.lemmas.List.{at_drop_more, drop_all}
use Rattle.pef_format.specs.declared.place.Part.TheVariants.{Header}
use Rattle.pef_report.specs.Inspection.{merged_left, merged_text, rows_among, rows_of}
use Rattle.pef_report.specs.Readable.{row_count}
use Rattle.pef_report.specs.Views.{readable}
use Rattle.pef_report.proofs.Merging.{merged_left-append, merged_text-append}
use Rattle.pef_ports.proofs.Laws.Sending.{Sends-short, sent-all, sent-nothing, sent-piece, sent-short}
use Rattle.pef_report.proofs.walk.Walk.print_parts.Goals as goal

pub loop-part-init : goal.loop-part-init
loop-part-init g c =
    let walk = c.args.self.now in
    record {
      sent = sent-nothing (g.W.Sink.stream c.args.out.now) c.args.page.now.items (merged_text walk.base (rows_of (readable walk.reading) c.args.parts.now) walk.left.now);
      base = refl;
      reading = refl;
      left = refl;
    }

pub loop-part-preserved : goal.loop-part-preserved
loop-part-preserved g c =
    let walk = c.args.self.now in
    let r = readable walk.reading in
    let at = c.loop-part in
    let part = get_or c.args.parts.now at.part-index Header in
    let here = rows_among r part 0 (row_count r part) in
    let rest = rows_of r (drop (at.part-index + 1) c.args.parts.now) in
    let next = at_drop_more (rows_of r) c.args.parts.now at.part-index Header c.loop-part-test.true in
    let passes = rw at.invariant.reading at c.in_ok-print_part.ensures.passes in
    record {
      sent = rw passes.left (sent-piece _ at.invariant.sent (ap (λ rows. merged_text walk.base rows at.self.left.now) next ∙ merged_text-append walk.base here rest at.self.left.now) (rw (at.invariant.base, at.invariant.reading) at c.in_ok-print_part.ensures.sends));
      base = passes.base ∙ at.invariant.base;
      reading = c.in_ok-print_part.ensures.passes.reading ∙ at.invariant.reading;
      left = rw passes.left (sym (ap (λ rows. merged_left rows at.self.left.now) next ∙ merged_left-append here rest at.self.left.now) ∙ at.invariant.left);
    }

pub returns-in_err-print_part-clause-sends : goal.returns-in_err-print_part-clause-sends
returns-in_err-print_part-clause-sends g c =
    let walk = c.args.self.now in
    let r = readable walk.reading in
    let at = c.loop-part in
    let part = get_or c.args.parts.now at.part-index Header in
    let here = rows_among r part 0 (row_count r part) in
    let rest = rows_of r (drop (at.part-index + 1) c.args.parts.now) in
    let next = at_drop_more (rows_of r) c.args.parts.now at.part-index Header c.loop-part-test.true in
    Sends-short _ c.from_residual.result _ c.from_residual.ensures.1 (sent-short _ at.invariant.sent (ap (λ rows. merged_text walk.base rows at.self.left.now) next ∙ merged_text-append walk.base here rest at.self.left.now) (rw (at.invariant.base, at.invariant.reading) at c.in_err-print_part.ensures.sends))

pub returns-clause-sends : goal.returns-clause-sends
returns-clause-sends g c =
    let walk = c.args.self.now in
    let at = c.loop-part in
    sent-all at.invariant.sent (ap (λ parts. merged_text walk.base (rows_of (readable walk.reading) parts) at.self.left.now) (drop_all at.part-index c.args.parts.now c.loop-part-test.false))

pub returns-clause-passes : goal.returns-clause-passes
returns-clause-passes g c =
    let walk = c.args.self.now in
    let at = c.loop-part in
    record {
      base = at.invariant.base;
      reading = at.invariant.reading;
      left = sym (ap (λ parts. merged_left (rows_of (readable walk.reading) parts) at.self.left.now) (drop_all at.part-index c.args.parts.now c.loop-part-test.false)) ∙ at.invariant.left;
    }
