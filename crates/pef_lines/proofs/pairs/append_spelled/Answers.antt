-- The room after the bytes that are there is that of the pairs.
use Rattle.std.proofs.Common.{◌/◌, length, arith}
use Rattle.pef_lines.proofs.PairLemmas.{length-spelled}
use Rattle.pef_lines.proofs.pairs.append_spelled.Goals as goal

pub spell-requires : goal.spell-requires
spell-requires c =
    let digits = c.args.digits.now in
    let count = length-spelled (length digits / 2) digits (omega arith) in
    omega (arith, count, c.in_ok-resize.ensures.len, c.deref_mut.ensures.len, c.split_at_mut-added.ensures.back_len)
