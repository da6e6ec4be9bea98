-- There is a byte for each pair.
use Rattle.std.proofs.Common.{◌/◌, length, sym, arith}
use Rattle.pef_lines.proofs.PairLemmas.{length-spelled}
use Rattle.pef_lines.proofs.pairs.Pairs.count.Goals as goal

pub returns : goal.returns
returns c = let digits = c.self.inside.digits.now in rw (← c.self.view_is) (sym (length-spelled (length digits / 2) digits (omega (arith, c.self.invariant))))
