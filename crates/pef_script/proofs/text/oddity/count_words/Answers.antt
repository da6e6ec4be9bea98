-- Each turn is past one byte.
use Rattle.std.proofs.Common.{arith}
use Rattle.pef_script.proofs.TextProofs.PlaceLemmas.{count-more}
use Rattle.pef_script.proofs.text.oddity.count_words.Goals as goal

pub loop-byte-preserved : goal.loop-byte-preserved
loop-byte-preserved c =
    let more = count-more c.args.line.now c.loop-byte.byte-index (omega arith) in
    record { few = omega arith; all = omega (arith, more, c.spaces_of-spaces.ensures.value) }
