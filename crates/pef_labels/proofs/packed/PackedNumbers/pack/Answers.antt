use Rattle.std.proofs.Common.{◌∙◌, arith}
use Rattle.std.proofs.lemmas.List.{take_all}
use Rattle.pef_labels.proofs.PackedLemmas.{packs-all}
use Rattle.pef_labels.proofs.packed.PackedNumbers.pack.Goals as goal

pub returns : goal.returns
returns c =
    packs-all c.loop-number.before c.loop-number.packed.steps.items c.loop-number.packed.far.items _ c.loop-number.invariant
    ∙ take_all c.loop-number.number-index c.args.numbers.now (omega (arith, c.loop-number-test.false))
