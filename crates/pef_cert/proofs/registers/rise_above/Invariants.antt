use Rattle.std.proofs.Common.{◌≡◌, drop}
use Rattle.pef_labels.specs.Rising.{above_all}
use Rattle.pef_cert.proofs.registers.rise_above.Given as goal

abbrev pub invariant-loop-number : goal.invariant-loop-number
invariant-loop-number l = above_all l.low (drop l.number-index l.numbers) ≡ above_all l.first l.numbers
