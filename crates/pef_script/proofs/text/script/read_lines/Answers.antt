-- Each turn reads the first of the lines that are left. The rest after the last line feed is the last line.
use Rattle.std.proofs.Common.{◌≡◌, ◌+◌, [], ◌∷◌, subst, sym, ap, refl, ◌∙◌, arith}
use Rattle.std.proofs.lemmas.Result.{err_from_is_err_and}
use Rattle.pef_lines.specs.Lines.{lines_of}
use Rattle.pef_script.specs.Text.Grammar.{after_line, read_lines}
use Rattle.pef_script.specs.Text.Kept.Reader.{so_far}
use Rattle.pef_script.specs.Text.Kept.Steps.{FailsIn, ReadsLines}
use Rattle.pef_lines.proofs.Laws.{lines_of-last, lines_of-cut, cut_at-shorter}
use Rattle.pef_script.proofs.TextProofs.LineLemmas.{last_line, read_lines-fails}
use Rattle.pef_script.proofs.text.script.read_lines.Goals as goal

pub lines-init : goal.lines-init
lines-init c = record { small = omega arith; whole = refl }

pub returns-in_err-read_numbered : goal.returns-in_err-read_numbered
returns-in_err-read_numbered c =
    let p = err_from_is_err_and c.from_residual.result c.from_residual.ensures.1 in
    let cut = lines_of-cut c.lines.rest.now c.in-Some.line.now c.in-Some.behind.now (sym c.in-Some.ensures) in
    let whole : read_lines (so_far c.lines.reader) c.lines.number (c.in-Some.line.now ∷ lines_of c.in-Some.behind.now) ≡ read_lines (so_far c.args.reader.now) 1 (lines_of c.args.text.now) =
    ap (read_lines (so_far c.lines.reader) c.lines.number) (sym cut) ∙ c.lines.invariant.whole in
    rw (p.1, p.2) (subst (FailsIn c.in_err-read_numbered.field-0.0) whole (read_lines-fails c.in_err-read_numbered.field-0.0 (so_far c.lines.reader) c.lines.number c.in-Some.line.now (lines_of c.in-Some.behind.now) c.in_err-read_numbered.ensures))

pub lines-smaller : goal.lines-smaller
lines-smaller c =
    let shorter = cut_at-shorter 0x0A c.lines.rest.now c.in-Some.line.now c.in-Some.behind.now (sym c.in-Some.ensures) in
    omega (arith, shorter)

pub lines-preserved : goal.lines-preserved
lines-preserved c =
    let cut = lines_of-cut c.lines.rest.now c.in-Some.line.now c.in-Some.behind.now (sym c.in-Some.ensures) in
    let shorter = cut_at-shorter 0x0A c.lines.rest.now c.in-Some.line.now c.in-Some.behind.now (sym c.in-Some.ensures) in
    let step = c.in_ok-read_numbered.ensures in
    record {
      small = omega (arith, shorter);
      whole = ap (λ r. after_line r c.lines.number (λ next. read_lines next (c.lines.number + 1) (lines_of c.in-Some.behind.now))) (sym step)
          ∙ ap (read_lines (so_far c.lines.reader) c.lines.number) (sym cut) ∙ c.lines.invariant.whole;
    }

pub returns : goal.returns
returns c =
    let last = lines_of-last c.lines.rest.now (sym c.in_default.ensures) in
    let whole : read_lines (so_far c.lines.reader) c.lines.number (c.lines.rest.now ∷ []) ≡ read_lines (so_far c.args.reader.now) 1 (lines_of c.args.text.now) =
    ap (read_lines (so_far c.lines.reader) c.lines.number) (sym last) ∙ c.lines.invariant.whole in
    subst (ReadsLines c.read_numbered-2.result (so_far c.read_numbered-2.new.self)) whole
    (last_line c.read_numbered-2.result (so_far c.lines.reader) (so_far c.read_numbered-2.new.self) c.lines.number c.lines.rest.now c.read_numbered-2.ensures)
