-- A number past 32 bits stays so.
use Rattle.std.proofs.Common.{sym, ap, ◌∙◌, ◌^◌, ◌+◌, ◌*◌, drop, arith}
use Rattle.pef_lines.specs.Numbers.{below}
use Rattle.pef_lines.proofs.Digits.{past_limit, digits_value-next}
use Rattle.pef_lines.proofs.numbers.decimal_digits.Goals as goal

pub returns-then-value-from : goal.returns-then-value-from
returns-then-value-from c =
    let digits = c.args.digits.now in
    let next = digits_value-next 10 c.loop-digit.value digits c.loop-digit.digit-index c.in_ok-decimal_digit.field-0 (omega arith) c.in_ok-decimal_digit.ensures.value in
    let over = rw (c.from.ensures, c.from-in-loop-digit.ensures) at c.if-value-from.true in
    sym (past_limit (2 ^ 32) 10 (c.loop-digit.value * 10 + c.in_ok-decimal_digit.field-0) (drop (c.loop-digit.digit-index + 1) digits) (omega arith) (omega (arith, over))) ∙ sym (ap (below (2 ^ 32)) next) ∙ c.loop-digit.invariant.whole
