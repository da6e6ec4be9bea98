-- The range that a turn reads is the next one.
use Rattle.std.proofs.Common.{◌≡◌, ◌+◌, ◌-◌, ◌*◌, ◌++◌, List, ℕ, length, length-append, replicate, subst, ap, sym, ◌∙◌, arith}
use Rattle.std.proofs.lemmas.List.{length-replicate}
use Rattle.std.proofs.lemmas.Result.{err_from_is_err_and}
use Rattle.pef_labels.specs.Rows.{LaidRows}
use Rattle.pef_cert.specs.Text.Grammar.{last_labels}
use Rattle.pef_cert.specs.Text.Kept.Reading.{RangesGoing, left}
use Rattle.pef_cert.proofs.TextProofs.RangeLemmas.{last_labels-more}
use Rattle.pef_cert.proofs.TextProofs.ReadLemmas.{ranges-begin, ranges-end, ranges-fail, ranges-step}
use Rattle.pef_cert.proofs.text.reader.read_ranges.Goals as goal

pub rows-init : goal.rows-init
rows-init c =
    let width = c.args.classes * c.args.classes in
    let none = ap (λ (l : LaidRows). l.rows) c.new-labels.ensures in
    record {
      going = subst (λ (rows : List (List ℕ)). RangesGoing width c.args.count rows (left c.args.lines.now) (left c.args.lines.now)) (sym none) (ranges-begin width c.args.count (left c.args.lines.now));
      count = ap length none;
      inside = omega arith;
      before = c.new-before.ensures.items ∙ ap last_labels (sym none);
      width = ap (λ (l : LaidRows). l.width) c.new-labels.ensures;
      no_more = omega arith;
    }

pub returns-in_err-last-clause-takes : goal.returns-in_err-last-clause-takes
returns-in_err-last-clause-takes c =
    let p = err_from_is_err_and c.from_residual.result c.from_residual.ensures.1 in
    let i = c.rows.invariant in
    let before = c.deref.ensures.value ∙ i.before in
    rw (p.1, p.2) (ranges-fail c.in_err-last.field-0.0 (c.args.classes * c.args.classes) c.args.count c.rows.first c.rows.labels.rows _ (left c.rows.lines) (left c.args.lines.now) i.going i.count before c.rows-test.true c.in_err-last.ensures.takes)

pub rows-preserved : goal.rows-preserved
rows-preserved c =
    let width = c.args.classes * c.args.classes in
    let i = c.rows.invariant in
    let more = c.in_ok-last.last - c.rows.first + 1 in
    let labels = c.read_range.new.row.items in
    let before = c.deref.ensures.value ∙ i.before in
    let forward = c.in_ok-last.ensures.forward in
    let inside = c.in_ok-last.ensures.inside in
    let pushed = c.in_ok-push_many.ensures.ok in
    let rows : c.push_many.new.self.rows ≡ c.rows.labels.rows ++ replicate more labels =
    ap (λ (l : LaidRows). l.rows) pushed ∙ ap (λ (r : List ℕ). c.rows.labels.rows ++ replicate more r) c.deref-in-rows.ensures.value in
    let going = ranges-step width c.args.count c.rows.first c.in_ok-last.last c.rows.labels.rows _ labels (left c.rows.lines) (left c.read_range.new.lines) (left c.args.lines.now) i.going i.count before forward inside c.in_ok-last.ensures.takes in
    record {
      going = subst (λ (rs : List (List ℕ)). RangesGoing width c.args.count rs (left c.read_range.new.lines) (left c.args.lines.now)) (sym rows) going;
      count = (let sum = length-append c.rows.labels.rows (replicate more labels) in let run = length-replicate more labels in let so_far = i.count in omega (arith, ap length rows, sum, run, so_far, forward));
      inside = omega (arith, inside);
      before = rw (c.swap.ensures.x_after) (sym (ap last_labels rows ∙ last_labels-more c.rows.labels.rows (c.in_ok-last.last - c.rows.first) labels));
      width = ap (λ (l : LaidRows). l.width) pushed ∙ i.width;
      no_more = omega (arith, c.in_ok-last.ensures.no_more, i.no_more);
    }

pub returns-clause-takes : goal.returns-clause-takes
returns-clause-takes c =
    let i = c.rows.invariant in
    let so_far = i.count in
    ranges-end (c.args.classes * c.args.classes) c.args.count c.rows.labels.rows (left c.rows.lines) (left c.args.lines.now) i.going (omega (arith, so_far))
