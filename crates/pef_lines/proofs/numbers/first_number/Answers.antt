-- A word that doesn't begin with 0 is the number that its digits spell.
use Rattle.std.proofs.Common.{sym, ◌∙◌}
use Rattle.std.proofs.lemmas.Bool.{ne_eqb}
use Rattle.pef_lines.proofs.FirstNumber.{first_number_some}
use Rattle.pef_lines.proofs.numbers.first_number.Goals as goal

pub returns-in_err-number : goal.returns-in_err-number
returns-in_err-number c =
    let other = ne_eqb c.in_ok-first.first.now 0x30 c.if-first-eq48.false in
    rw (c.from_residual-in_err-number.ensures, c.in_ok-first.ensures.cases.0) (c.in_err-number.ensures ∙ first_number_some c.in_ok-first.first.now c.in_ok-digit.digit c.in_ok-first.rest.now other (sym c.in_ok-digit.ensures.value))

pub returns : goal.returns
returns c =
    let other = ne_eqb c.in_ok-first.first.now 0x30 c.if-first-eq48.false in
    rw (c.in_ok-first.ensures.cases.0) (c.separated-2.ensures ∙ c.in_ok-number.ensures ∙ first_number_some c.in_ok-first.first.now c.in_ok-digit.digit c.in_ok-first.rest.now other (sym c.in_ok-digit.ensures.value))
