-- Each turn looks at one line.
use Rattle.std.proofs.Common.{◌≡◌, ◌+◌, ◌-◌, [], take, sym, ap, ◌∙◌, arith}
use Rattle.std.specs.List.{position_from}
use Rattle.pef_lines.specs.Lines.{lines_of}
use Rattle.pef_lines.proofs.Laws.{lines_of-cut, lines_of-last}
use Rattle.pef_script.specs.Text.Earlier.{earlier_of, is_about}
use Rattle.pef_script.proofs.TextProofs.PlaceLemmas.{first_holds, first_later, none_of_last}
use Rattle.pef_script.proofs.text.earlier.earlier_of.Goals as goal

pub returns-then-is_about : goal.returns-then-is_about
unfolding earlier_of
returns-then-is_about c =
    let test = is_about c.args.fault c.line_in-line.result.now in
    let left = c.args.number - c.loop-at.at in
    let cut = lines_of-cut c.loop-at.rest.now c.in-Some.earlier.now c.in-Some.behind.now (sym c.in-Some.ensures) in
    let here = first_holds test c.in-Some.earlier.now (lines_of c.in-Some.behind.now) left c.loop-at.at (omega arith) (sym c.is_about.ensures ∙ c.if-is_about.true) in
    rw (← c.line_in-line.ensures) (sym here ∙ ap (λ lines. position_from test c.loop-at.at (take left lines)) (sym cut) ∙ c.loop-at.invariant)

pub returns-then-is_about-2 : goal.returns-then-is_about-2
unfolding earlier_of
returns-then-is_about-2 c =
    let test = is_about c.args.fault c.line_in-line.result.now in
    let left = c.args.number - c.loop-at.at in
    let last = lines_of-last c.loop-at.rest.now (sym c.in-None.ensures) in
    let here = first_holds test c.loop-at.rest.now [] left c.loop-at.at (omega arith) (sym c.is_about-in-None.ensures ∙ c.if-is_about-2.true) in
    rw (← c.line_in-line.ensures) (sym here ∙ ap (λ lines. position_from test c.loop-at.at (take left lines)) (sym last) ∙ c.loop-at.invariant)

pub returns-else-is_about-2 : goal.returns-else-is_about-2
unfolding earlier_of
returns-else-is_about-2 c =
    let test = is_about c.args.fault c.line_in-line.result.now in
    let left = c.args.number - c.loop-at.at in
    let last = lines_of-last c.loop-at.rest.now (sym c.in-None.ensures) in
    let here = none_of_last test c.loop-at.rest.now left c.loop-at.at (omega arith) (sym c.is_about-in-None.ensures ∙ c.if-is_about-2.false) in
    rw (← c.line_in-line.ensures) (sym here ∙ ap (λ lines. position_from test c.loop-at.at (take left lines)) (sym last) ∙ c.loop-at.invariant)

pub loop-at-preserved : goal.loop-at-preserved
loop-at-preserved c =
    let test = is_about c.args.fault c.line_in-line.result.now in
    let left = c.args.number - c.loop-at.at in
    let cut = lines_of-cut c.loop-at.rest.now c.in-Some.earlier.now c.in-Some.behind.now (sym c.in-Some.ensures) in
    let later = first_later test c.in-Some.earlier.now (lines_of c.in-Some.behind.now) left c.loop-at.at (omega arith) (sym c.is_about.ensures ∙ c.if-is_about.false) in
    let fewer : c.args.number - (c.loop-at.at + 1) ≡ left - 1 = omega arith in
    ap (λ n. position_from test (c.loop-at.at + 1) (take n (lines_of c.in-Some.behind.now))) fewer ∙ sym later
    ∙ ap (λ lines. position_from test c.loop-at.at (take left lines)) (sym cut) ∙ c.loop-at.invariant
