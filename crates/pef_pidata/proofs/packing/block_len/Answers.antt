use Rattle.std.proofs.Common.{◌<◌, drop, arith}
use Rattle.pef_pidata.specs.Kept.Runs.{zeros_first}
use Rattle.pef_pidata.proofs.Parts.{copied_by_one, copied_by_three, copied_to_end, short_here, short_next}
use Rattle.pef_pidata.proofs.packing.block_len.Goals.{else-image-at-eq0-via-then-image-at-eq0+else-image-at-eq0-2, else-image-at-eq0-via-else-image-at-eq0}
use Rattle.pef_pidata.proofs.packing.block_len.Goals as goal

pub loop-at-preserved-then-image-at-ne0 : goal.loop-at-preserved-then-image-at-ne0
loop-at-preserved-then-image-at-ne0 c = record {
  within = omega arith;
  copied = copied_by_three c.args.image.now c.loop-at.at c.loop-at-test.true c.if-image-at-ne0.true c.loop-at.invariant.copied;
}

pub loop-at-preserved : goal.loop-at-preserved
loop-at-preserved c =
    let short : zeros_first (drop c.loop-at.at c.args.image.now) < 3 = elim c.else-image-at-eq0.branch [
      | else-image-at-eq0-via-then-image-at-eq0+else-image-at-eq0-2 w ↦ short_next c.args.image.now c.loop-at.at (omega arith) w.if-image-at-eq0-2.false
      | else-image-at-eq0-via-else-image-at-eq0 w ↦ short_here c.args.image.now c.loop-at.at (omega arith) w.if-image-at-eq0.false
    ] in
    record {
      within = omega arith;
      copied = copied_by_one c.args.image.now c.loop-at.at (omega arith) short c.loop-at.invariant.copied;
    }

pub returns-clause-copied : goal.returns-clause-copied
returns-clause-copied c = copied_to_end c.args.image.now c.loop-at.at c.loop-at.invariant.within c.loop-at-test.false c.loop-at.invariant.copied
