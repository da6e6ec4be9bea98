use Rattle.std.proofs.Common.{arith}
use Rattle.pef_hash.proofs.Slots.{word_below}
use Rattle.pef_hash.proofs.word.slot.Goals as goal

pub returns-then-power-ge-BITS-clause-below : goal.returns-then-power-ge-BITS-clause-below
returns-then-power-ge-BITS-clause-below c = word_below c.args.word c.args.power (omega arith) (omega arith)
