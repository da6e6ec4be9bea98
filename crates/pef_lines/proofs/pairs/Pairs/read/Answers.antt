-- An odd number of digits and a byte that is no digit spell nothing. Otherwise each pair is a byte.
use Rattle.std.proofs.Common.{◌/◌, length, sym, arith}
use Rattle.pef_lines.proofs.PairLemmas.{pairs_of-odd, pairs_of-bad, pairs_of-good}
use Rattle.pef_lines.proofs.pairs.Pairs.read.Goals as goal

pub returns-then-word-ne0 : goal.returns-then-word-ne0
returns-then-word-ne0 c = let word = c.args.word.now in sym (pairs_of-odd (length word / 2) word (omega arith))

pub returns-then-not-all_hex : goal.returns-then-not-all_hex
returns-then-not-all_hex c = sym (pairs_of-bad c.args.word.now (sym c.if-not-all_hex.ensures))

pub returns : goal.returns
returns c = let word = c.args.word.now in sym (pairs_of-good (length word / 2) word (omega arith) (sym c.if-not-all_hex.ensures))
