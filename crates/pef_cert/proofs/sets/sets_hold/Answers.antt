use Rattle.std.proofs.Common.{arith, refl}
use borrow.Author.Count.{below_more}
use Rattle.pef_cert.specs.Kept.Sets.{LinesHold}
use Rattle.pef_cert.proofs.sets.sets_hold.Goals as goal

pub returns-then-not-lines_hold : goal.returns-then-not-lines_hold
returns-then-not-lines_hold c = (λ e. absurd (cc), λ all. c.if-not-lines_hold.ensures.1 (all c.loop-k.k (omega arith)))

pub loop-k-preserved : goal.loop-k-preserved
loop-k-preserved c = below_more (LinesHold c.args.row.now c.args.classes) c.loop-k.k c.loop-k.invariant (c.if-not-lines_hold.ensures.0 refl)

pub returns : goal.returns
returns c = (λ e k under. c.loop-k.invariant k (omega arith), λ all. refl)
