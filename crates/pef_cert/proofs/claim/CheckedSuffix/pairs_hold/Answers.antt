use Rattle.std.proofs.Common.{◌+◌, ◌-◌, refl, sym, arith}
use Rattle.pef_cert.specs.Kept.Claims.{label_after, labels_claimed}
use Rattle.pef_cert.proofs.ClaimLemmas.{knows-sees}
use Rattle.pef_cert.proofs.CoverLemmas.{pairs-covered}
use Rattle.pef_cert.proofs.StepLemmas.{pair_inside, pairs-end, pairs-fail, pairs-next, pairs-stop, word_end-pair}
use Rattle.pef_cert.proofs.claim.CheckedSuffix.pairs_hold.Goals as goal

pub returns-then-not-adds_pair : goal.returns-then-not-adds_pair
returns-then-not-adds_pair c =
    let b = c.args.self in
    let t = c.args.tested in
    pairs-stop (labels_claimed b.claim) t.label c.args.run.stride c.args.run.first c.args.run.second t.c t.d (512 - c.pairs.counter) c.pairs.from c.pairs.at b.claim.fixups.now _ c.pairs.invariant.left c.if-not-adds_pair.ensures

pub returns-then-covers : goal.returns-then-covers
returns-then-covers c =
    let b = c.args.self in
    let t = c.args.tested in
    let cover = c.if-covers.ensures refl in
    pairs-covered (labels_claimed b.claim) t.label (label_after b t c.pairs.at) c.args.run.stride c.args.run.first c.args.run.second t.c t.d (512 - c.pairs.counter) c.pairs.from c.pairs.at b.claim.fixups.now _ cover.low (omega arith) c.pairs.invariant.left
    (c.requires.met c.pairs.at c.pairs.from cover.after (sym c.if-not-adds_pair.ensures))

pub follows-requires-clause-sees : goal.follows-requires-clause-sees
follows-requires-clause-sees c =
    let b = c.args.self in
    let under = pair_inside b.claim.fixups.now c.pairs.at c.pairs.from c.args.run.first c.args.run.second c.if-not-adds_pair.ensures in
    knows-sees b (c.args.tested.at + 1) (c.pairs.at + 2) c.requires.tests.knows (omega arith) (omega arith) (omega (arith, under))

pub follows-requires-clause-after : goal.follows-requires-clause-after
follows-requires-clause-after c =
    let end = word_end-pair c.args.self.claim.fixups.now c.pairs.at c.pairs.from c.args.run.first c.args.run.second c.if-not-adds_pair.ensures in
    omega (arith, end, c.requires.stride)

pub returns-then-not-follows : goal.returns-then-not-follows
returns-then-not-follows c =
    let b = c.args.self in
    let t = c.args.tested in
    pairs-fail (labels_claimed b.claim) t.label c.args.run.stride c.args.run.first c.args.run.second t.c t.d 512 c.pairs.counter c.pairs.from c.pairs.at b.claim.fixups.now _ (omega arith) c.pairs.invariant.left c.if-not-adds_pair.ensures c.if-not-follows.ensures

pub pairs-preserved : goal.pairs-preserved
pairs-preserved c =
    let b = c.args.self in
    let t = c.args.tested in
    let under = pair_inside b.claim.fixups.now c.pairs.at c.pairs.from c.args.run.first c.args.run.second c.if-not-adds_pair.ensures in
    record {
      count = omega arith;
      at = omega arith;
      inside = omega (arith, under);
      from = omega arith;
      left = pairs-next (labels_claimed b.claim) t.label c.args.run.stride c.args.run.first c.args.run.second t.c t.d 512 c.pairs.counter c.pairs.from c.pairs.at b.claim.fixups.now _ (omega arith) c.pairs.invariant.left c.if-not-adds_pair.ensures c.if-not-follows.ensures;
    }

pub returns : goal.returns
returns c =
    let b = c.args.self in
    let t = c.args.tested in
    pairs-end (labels_claimed b.claim) t.label c.args.run.stride c.args.run.first c.args.run.second t.c t.d 512 c.pairs.counter c.pairs.from c.pairs.at b.claim.fixups.now _ (omega arith) c.pairs.invariant.left
