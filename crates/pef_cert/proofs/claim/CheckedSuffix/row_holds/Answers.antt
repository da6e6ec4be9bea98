use Rattle.std.proofs.Common.{◌+◌, ◌-◌, refl, sym, arith}
use Rattle.pef_cert.specs.Kept.Claims.{label_after, labels_claimed}
use Rattle.pef_cert.proofs.ClaimLemmas.{knows-sees}
use Rattle.pef_cert.proofs.CoverLemmas.{row-covered}
use Rattle.pef_cert.proofs.StepLemmas.{adds_inside, row-end, row-fail, row-next, row-stop, word_end-added}
use Rattle.pef_cert.proofs.claim.CheckedSuffix.row_holds.Goals as goal

pub returns-then-not-adds : goal.returns-then-not-adds
returns-then-not-adds c =
    let b = c.args.self in
    let t = c.args.tested in
    row-stop (labels_claimed b.claim) t.label c.args.stride c.args.base t.c t.d (512 - c.words.counter) c.words.from c.words.at b.claim.fixups.now _ c.words.invariant.left c.if-not-adds.ensures

pub returns-then-covers : goal.returns-then-covers
returns-then-covers c =
    let b = c.args.self in
    let t = c.args.tested in
    let cover = c.if-covers.ensures refl in
    row-covered (labels_claimed b.claim) t.label (label_after b t c.words.at) c.args.stride c.args.base t.c t.d (512 - c.words.counter) c.words.from c.words.at b.claim.fixups.now _ cover.low (omega arith) c.words.invariant.left
    (c.requires.met c.words.at c.words.from cover.after (sym c.if-not-adds.ensures))

pub follows-requires-clause-sees : goal.follows-requires-clause-sees
follows-requires-clause-sees c =
    let b = c.args.self in
    let under = adds_inside b.claim.fixups.now c.words.at c.words.from c.args.base (sym c.if-not-adds.ensures) in
    knows-sees b (c.args.tested.at + 1) (c.words.at + 1) c.requires.tests.knows (omega arith) (omega arith) (omega (arith, under))

pub follows-requires-clause-after : goal.follows-requires-clause-after
follows-requires-clause-after c =
    let end = word_end-added c.args.self.claim.fixups.now c.words.at c.words.from c.args.base (sym c.if-not-adds.ensures) in
    omega (arith, end, c.requires.stride)

pub returns-then-not-follows : goal.returns-then-not-follows
returns-then-not-follows c =
    let b = c.args.self in
    let t = c.args.tested in
    row-fail (labels_claimed b.claim) t.label c.args.stride c.args.base t.c t.d 512 c.words.counter c.words.from c.words.at b.claim.fixups.now _ (omega arith) c.words.invariant.left c.if-not-adds.ensures c.if-not-follows.ensures

pub words-preserved : goal.words-preserved
words-preserved c =
    let b = c.args.self in
    let t = c.args.tested in
    let under = adds_inside b.claim.fixups.now c.words.at c.words.from c.args.base (sym c.if-not-adds.ensures) in
    record {
      count = omega arith;
      at = omega arith;
      inside = omega (arith, under);
      from = omega arith;
      left = row-next (labels_claimed b.claim) t.label c.args.stride c.args.base t.c t.d 512 c.words.counter c.words.from c.words.at b.claim.fixups.now _ (omega arith) c.words.invariant.left c.if-not-adds.ensures c.if-not-follows.ensures;
    }

pub returns : goal.returns
returns c =
    let b = c.args.self in
    let t = c.args.tested in
    row-end (labels_claimed b.claim) t.label c.args.stride c.args.base t.c t.d 512 c.words.counter c.words.from c.words.at b.claim.fixups.now _ (omega arith) c.words.invariant.left
