use Rattle.std.proofs.Common.{arith}
use Rattle.pef_cert.proofs.FixupsProofs.WalkLemmas.{words-end, words-fail, words-next}
use Rattle.pef_cert.proofs.fixups.walk.after_words.Goals as goal

pub returns-in_err-left : goal.returns-in_err-left
returns-in_err-left c =
    rw c.from_residual.ensures
    (words-fail c.args.count c.words.counter c.words.position c.args.stride c.args.base c.words.left.now _ (omega arith) c.words.invariant.left c.in_err-left.ensures)

pub words-preserved : goal.words-preserved
words-preserved c = record {
  position = omega (arith, c.words.invariant.position, c.requires.stride);
  left = words-next c.args.count c.words.counter c.words.position c.args.stride c.args.base c.words.left.now c.in_ok-left.left.now _ (omega arith) c.words.invariant.left c.in_ok-left.ensures;
}

pub returns : goal.returns
returns c = words-end c.args.count c.words.counter c.words.position c.args.stride c.args.base c.words.left.now _ (omega arith) c.words.invariant.left
