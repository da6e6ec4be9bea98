-- Each turn writes the byte of the first pair that is left.
use Rattle.std.proofs.Common.{◌∙◌, arith}
use Rattle.pef_lines.proofs.PairLemmas.{spelled-next}
use Rattle.pef_lines.proofs.pairs.spell.Goals as goal

pub loop-i-preserved : goal.loop-i-preserved
loop-i-preserved c =
    rw (c.digit_value.ensures.value, c.digit_value-in-loop-i.ensures.value) (spelled-next c.args.digits.now c.loop-i.bytes c.loop-i.i (omega arith) (omega arith) ∙ c.loop-i.invariant)
