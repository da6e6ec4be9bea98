-- Each row is printed after the findings about rows before it.
use Rattle.std.proofs.Common.{◌≡◌, ◌∙◌, ◌+◌, ◌-◌, ◌<◌, ◌≤◌, ◌∷◌, ℕ, ap, ap₂, arith, refl, subst, sym}
use Rattle.pef_report.specs.Inspection.{merged_left, merged_text, row_at, rows_among, rows_below}
use Rattle.pef_report.specs.Readable.{Readable, row_count}
use Rattle.pef_report.specs.Views.{readable}
use Rattle.pef_report.proofs.Merging.{merged_left-append, merged_text-append, rows_among-next, rows_among-none}
use Rattle.pef_ports.specs.Sent.{Prints, StopsShort}
use Rattle.pef_ports.proofs.Laws.Sending.{Sends-short, sent-all, sent-nothing, sent-piece, sent-short}
use Rattle.pef_report.proofs.walk.Walk.print_part.Goals as goal

pub loop-i-init : goal.loop-i-init
loop-i-init g c =
    let walk = c.args.self.now in
    let r = readable walk.reading in
    let many = row_count r c.args.part in
    let all : many - 0 ≡ many = omega arith in
    record {
      sent = rw all (sent-nothing (g.W.Sink.stream c.args.out.now) c.args.page.now.items (merged_text walk.base (rows_among r c.args.part 0 many) walk.left.now));
      base = refl;
      reading = refl;
      left = rw all refl;
    }

pub loop-i-preserved : goal.loop-i-preserved
loop-i-preserved g c =
    let walk = c.args.self.now in
    let r = readable walk.reading in
    let at = c.loop-i in
    let stream = g.W.Sink.stream in
    let under : at.i < row_count r c.args.part = omega (arith, c.count-i-end.ensures) in
    let here = row_at r c.args.part at.i ∷ rows_below r c.args.part at.i in
    let rest = rows_among r c.args.part (at.i + 1) (row_count r c.args.part - (at.i + 1)) in
    let piece = merged_text walk.base here at.self.left.now in
    let next = rows_among-next r c.args.part at.i (row_count r c.args.part) under in
    let passes = c.in_ok-print_next.ensures.passes in
    let left = passes.left ∙ ap (λ (s : Readable). merged_left (row_at s c.args.part at.i ∷ rows_below s c.args.part at.i) at.self.left.now) at.invariant.reading in
    let same = ap₂ (λ (base : ℕ) (s : Readable). merged_text base (row_at s c.args.part at.i ∷ rows_below s c.args.part at.i) at.self.left.now) at.invariant.base at.invariant.reading in
    let sends = subst (Prints (stream at.out) (stream c.print_next.new.out) at.page.items c.print_next.new.page.items) same c.in_ok-print_next.ensures.sends in
    record {
      sent = rw left (sent-piece {piece = piece} (merged_text walk.base rest (merged_left here at.self.left.now)) at.invariant.sent (ap (λ rows. merged_text walk.base rows at.self.left.now) next ∙ merged_text-append walk.base here rest at.self.left.now) sends);
      base = passes.base ∙ at.invariant.base;
      reading = passes.reading ∙ at.invariant.reading;
      left = rw left (sym (ap (λ rows. merged_left rows at.self.left.now) next ∙ merged_left-append here rest at.self.left.now) ∙ at.invariant.left);
    }

pub returns-in_err-print_next-clause-sends : goal.returns-in_err-print_next-clause-sends
returns-in_err-print_next-clause-sends g c =
    let walk = c.args.self.now in
    let r = readable walk.reading in
    let at = c.loop-i in
    let stream = g.W.Sink.stream in
    let under : at.i < row_count r c.args.part = omega (arith, c.count-i-end.ensures) in
    let here = row_at r c.args.part at.i ∷ rows_below r c.args.part at.i in
    let rest = rows_among r c.args.part (at.i + 1) (row_count r c.args.part - (at.i + 1)) in
    let piece = merged_text walk.base here at.self.left.now in
    let next = rows_among-next r c.args.part at.i (row_count r c.args.part) under in
    let same = ap₂ (λ (base : ℕ) (s : Readable). merged_text base (row_at s c.args.part at.i ∷ rows_below s c.args.part at.i) at.self.left.now) at.invariant.base at.invariant.reading in
    let short = subst (StopsShort (stream at.out) (stream c.print_next.new.out) at.page.items) same c.in_err-print_next.ensures.sends in
    Sends-short _ c.from_residual.result _ c.from_residual.ensures.1 (sent-short {piece = piece} (merged_text walk.base rest (merged_left here at.self.left.now)) at.invariant.sent (ap (λ rows. merged_text walk.base rows at.self.left.now) next ∙ merged_text-append walk.base here rest at.self.left.now) short)

pub returns-clause-sends : goal.returns-clause-sends
returns-clause-sends g c =
    let walk = c.args.self.now in
    let r = readable walk.reading in
    let at = c.loop-i in
    let past : row_count r c.args.part ≤ at.i = omega (arith, c.count-i-end.ensures) in
    sent-all at.invariant.sent (ap (λ rows. merged_text walk.base rows at.self.left.now) (rows_among-none r c.args.part at.i (row_count r c.args.part) past))

pub returns-clause-passes : goal.returns-clause-passes
returns-clause-passes g c =
    let walk = c.args.self.now in
    let r = readable walk.reading in
    let at = c.loop-i in
    let past : row_count r c.args.part ≤ at.i = omega (arith, c.count-i-end.ensures) in
    record {
      base = at.invariant.base;
      reading = at.invariant.reading;
      left = sym (ap (λ rows. merged_left rows at.self.left.now) (rows_among-none r c.args.part at.i (row_count r c.args.part) past)) ∙ at.invariant.left;
    }
