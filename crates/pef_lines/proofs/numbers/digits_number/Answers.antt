-- A number past 32 bits stays so.
use Rattle.std.proofs.Common.{sym, ap, ◌∙◌, ◌^◌, ◌+◌, ◌*◌, drop, arith}
use Rattle.pef_lines.specs.Numbers.{below}
use Rattle.pef_lines.proofs.Digits.{past_limit, digits_value-next}
use Rattle.pef_lines.proofs.numbers.digits_number.Goals as goal

pub returns-then-value-from : goal.returns-then-value-from
returns-then-value-from c =
    let digits = c.args.digits.now in
    let next = digits_value-next c.args.base c.loop-digit.value digits c.loop-digit.digit-index c.in_ok-digit_to.field-0 (omega arith) c.in_ok-digit_to.ensures in
    let over = rw (c.from.ensures, c.from-in-loop-digit.ensures, c.from-in-loop-digit-2.ensures) at c.if-value-from.true in
    sym (past_limit (2 ^ 32) c.args.base (c.loop-digit.value * c.args.base + c.in_ok-digit_to.field-0) (drop (c.loop-digit.digit-index + 1) digits) (omega arith) (omega (arith, over))) ∙ sym (ap (below (2 ^ 32)) next) ∙ c.loop-digit.invariant.whole
