-- A number past 32 bits stays so.
use Rattle.std.proofs.Common.{sym, ap, ◌∙◌, ◌+◌, ◌*◌, drop, arith}
use Rattle.pef_lines.specs.Kept.Numbers.{limited}
use Rattle.pef_lines.proofs.FirstNumber.{parted-next, parted-past}
use Rattle.pef_lines.proofs.numbers.digits_before.Goals as goal

pub returns-then-value-from : goal.returns-then-value-from
returns-then-value-from c =
    let bytes = c.args.bytes.now in
    let next = parted-next c.loop-byte.value bytes c.loop-byte.byte-index c.in-Some.digit (omega arith) c.in-Some.ensures.value in
    let over = rw (c.from.ensures, c.from-in-loop-byte.ensures) at c.if-value-from.true in
    sym (parted-past (c.loop-byte.value * 10 + c.in-Some.digit) (drop (c.loop-byte.byte-index + 1) bytes) (omega (arith, over))) ∙ sym (ap limited next) ∙ c.loop-byte.invariant.whole
