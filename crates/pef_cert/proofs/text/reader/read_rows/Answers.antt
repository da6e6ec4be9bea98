-- The row that a turn reads is the next one.
use Rattle.std.proofs.Common.{◌≡◌, ◌+◌, ◌-◌, ◌*◌, [], ◌∷◌, ◌++◌, List, ℕ, length, length-append, subst, ap, ◌∙◌, arith}
use Rattle.std.proofs.lemmas.Result.{err_from_is_err_and}
use Rattle.pef_labels.specs.Rows.{LaidRows}
use Rattle.pef_cert.specs.Text.Grammar.{rows_read}
use Rattle.pef_cert.specs.Text.Kept.Reading.{left}
use Rattle.pef_cert.specs.Text.Views.{FailsAs}
use Rattle.pef_cert.proofs.TextProofs.ReadLemmas.{rows_read-fails, rows_read-step}
use Rattle.pef_cert.proofs.text.reader.read_rows.Goals as goal

pub returns-in_err-read_row-clause-takes : goal.returns-in_err-read_row-clause-takes
returns-in_err-read_row-clause-takes c =
    let p = err_from_is_err_and c.from_residual.result c.from_residual.ensures.1 in
    let width = c.args.classes * c.args.classes in
    let fails = rows_read-fails c.in_err-read_row.field-0.0 width c.loop-at.at c.args.count c.loop-at.labels.rows (left c.loop-at.lines) (omega arith) c.in_err-read_row.ensures.takes in
    rw (p.1, p.2) (subst (FailsAs c.in_err-read_row.field-0.0) c.loop-at.invariant.rows fails)

pub loop-at-preserved : goal.loop-at-preserved
loop-at-preserved c =
    let width = c.args.classes * c.args.classes in
    let pushed = c.in_ok-push.ensures.ok in
    let rows : c.push.new.self.rows ≡ c.loop-at.labels.rows ++ c.read_row.new.row.items ∷ [] =
    ap (λ (l : LaidRows). l.rows) pushed ∙ ap (λ (r : List ℕ). c.loop-at.labels.rows ++ r ∷ []) c.deref.ensures.value in
    record {
      rows = ap (λ (rs : List (List ℕ)). rows_read width (c.loop-at.at + 1) (c.args.count - (c.loop-at.at + 1)) rs (left c.read_row.new.lines)) rows
          ∙ rows_read-step width c.loop-at.at c.args.count c.loop-at.labels.rows c.read_row.new.row.items (left c.loop-at.lines) (left c.read_row.new.lines) (omega arith) c.in_ok-read_row.ensures.takes
          ∙ c.loop-at.invariant.rows;
      count = (let more = ap length rows in let sum = length-append c.loop-at.labels.rows (c.read_row.new.row.items ∷ []) in let so_far = c.loop-at.invariant.count in omega (arith, more, sum, so_far));
      width = ap (λ (l : LaidRows). l.width) pushed ∙ c.loop-at.invariant.width;
      no_more = omega (arith, c.in_ok-read_row.ensures.no_more);
    }
