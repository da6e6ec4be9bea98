-- If no byte is the one there is no cut. Otherwise the cut is at the first that is.
use Rattle.std.proofs.Common.{sym, arith}
use Rattle.pef_lines.proofs.Cuts.{cut_at-none, cut_at-some}
use Rattle.pef_lines.proofs.words.place_near.Goals as goal

pub returns-clause-cut : goal.returns-clause-cut
returns-clause-cut c = sym (cut_at-none c.args.byte c.args.bytes.now (λ k under. c.loop-at.invariant k (omega arith)))

pub returns-then-other-byte-clause-cut : goal.returns-then-other-byte-clause-cut
returns-then-other-byte-clause-cut c =
    let under = c.loop-at-test.true in
    sym (cut_at-some c.args.byte c.args.bytes.now c.loop-at.at (omega arith) (λ k low. c.loop-at.invariant k low) c.if-other-byte.true)
