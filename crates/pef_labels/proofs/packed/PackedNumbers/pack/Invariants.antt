use Rattle.std.proofs.Common.{take}
use Rattle.pef_labels.proofs.PackedLemmas.{Packs}
use Rattle.pef_labels.proofs.packed.PackedNumbers.pack.Given as goal

abbrev pub invariant-loop-number : goal.invariant-loop-number
invariant-loop-number l = Packs l.before l.packed.steps.items l.packed.far.items (take l.number-index l.numbers)
