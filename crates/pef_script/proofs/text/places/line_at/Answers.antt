-- Each turn is past one line.
use Rattle.std.proofs.Common.{◌≡◌, slice_get, sym, ap, ◌∙◌, arith}
use Rattle.std.proofs.lemmas.Bool.{ne_eqb}
use Rattle.pef_lines.specs.Lines.{lines_of}
use Rattle.pef_lines.proofs.Laws.{lines_of-cut, lines_of-last}
use Rattle.pef_script.proofs.TextProofs.PlaceLemmas.{first_line, next_line, no_line}
use Rattle.pef_script.proofs.text.places.line_at.Goals as goal

pub lines-preserved : goal.lines-preserved
lines-preserved c =
    let cut = lines_of-cut c.lines.rest.now c.in_ok-behind.field-0-0.now c.in_ok-behind.behind.now (sym c.in_ok-behind.ensures) in
    sym (next_line c.in_ok-behind.field-0-0.now (lines_of c.in_ok-behind.behind.now) c.lines.left (omega arith))
    ∙ ap (λ lines. slice_get lines c.lines.left) (sym cut) ∙ c.lines.invariant

pub returns-in_err-behind : goal.returns-in_err-behind
returns-in_err-behind c =
    let last = lines_of-last c.lines.rest.now (sym c.in_err-behind.ensures) in
    let there = ne_eqb c.args.number 0 c.if-number-eq0.false in
    rw (c.from_residual.ensures, there) (sym (no_line c.lines.rest.now c.lines.left (omega arith)) ∙ ap (λ lines. slice_get lines c.lines.left) (sym last) ∙ c.lines.invariant)

pub returns : goal.returns
returns c =
    let there = ne_eqb c.args.number 0 c.if-number-eq0.false in
    let none : c.lines.left ≡ 0 = omega arith in
    rw (there, c.first_part.ensures.part) (sym (first_line c.lines.rest.now) ∙ ap (slice_get (lines_of c.lines.rest.now)) (sym none) ∙ c.lines.invariant)
