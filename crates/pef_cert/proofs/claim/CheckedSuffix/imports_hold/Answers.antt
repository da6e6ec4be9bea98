use Rattle.std.proofs.Common.{◌+◌, ◌-◌, refl, sym, arith}
use Rattle.pef_reloc.specs.declared.fixup.Base.TheVariants.{Import}
use Rattle.pef_cert.specs.Kept.Claims.{label_after, labels_claimed}
use Rattle.pef_cert.proofs.ClaimLemmas.{knows-sees}
use Rattle.pef_cert.proofs.CoverLemmas.{imports-met, index-added, numbered-covered}
use Rattle.pef_cert.proofs.StepLemmas.{adds_inside, numbered-end, numbered-fail, numbered-next, numbered-stop, word_end-added}
use Rattle.pef_cert.proofs.claim.CheckedSuffix.imports_hold.Goals as goal

pub returns-then-not-adds : goal.returns-then-not-adds
returns-then-not-adds c =
    let b = c.args.self in
    let t = c.args.tested in
    numbered-stop (labels_claimed b.claim) t.label t.c t.d (512 - c.imports.counter) c.imports.from c.imports.import c.imports.at b.claim.fixups.now _ c.imports.invariant.left c.if-not-adds.ensures

pub returns-then-covers : goal.returns-then-covers
returns-then-covers c =
    let b = c.args.self in
    let t = c.args.tested in
    let cover = c.if-covers.ensures refl in
    numbered-covered (labels_claimed b.claim) t.label (label_after b t c.imports.at) t.c t.d (512 - c.imports.counter) c.imports.from c.imports.import c.imports.at b.claim.fixups.now _ cover.low (omega arith) c.imports.invariant.left
    (imports-met b t c.imports.at c.imports.from c.imports.import c.requires.tests cover.after c.imports.invariant.index (sym c.if-not-adds.ensures))

pub follows-requires-clause-sees : goal.follows-requires-clause-sees
follows-requires-clause-sees c =
    let b = c.args.self in
    let under = adds_inside b.claim.fixups.now c.imports.at c.imports.from (Import c.imports.import) (sym c.if-not-adds.ensures) in
    knows-sees b (c.args.tested.at + 1) (c.imports.at + 1) c.requires.tests.knows (omega arith) (omega arith) (omega (arith, under))

pub follows-requires-clause-after : goal.follows-requires-clause-after
follows-requires-clause-after c =
    let end = word_end-added c.args.self.claim.fixups.now c.imports.at c.imports.from (Import c.imports.import) (sym c.if-not-adds.ensures) in
    omega (arith, end)

pub returns-then-not-follows : goal.returns-then-not-follows
returns-then-not-follows c =
    let b = c.args.self in
    let t = c.args.tested in
    numbered-fail (labels_claimed b.claim) t.label t.c t.d 512 c.imports.counter c.imports.from c.imports.import c.imports.at b.claim.fixups.now _ (omega arith) c.imports.invariant.left c.if-not-adds.ensures c.if-not-follows.ensures

pub imports-preserved : goal.imports-preserved
imports-preserved c =
    let b = c.args.self in
    let t = c.args.tested in
    let under = adds_inside b.claim.fixups.now c.imports.at c.imports.from (Import c.imports.import) (sym c.if-not-adds.ensures) in
    record {
      count = omega arith;
      at = omega arith;
      inside = omega (arith, under);
      from = omega arith;
      import = omega arith;
      index = index-added b.claim.fixups.now c.imports.at c.imports.from c.imports.import (sym c.if-not-adds.ensures);
      left = numbered-next (labels_claimed b.claim) t.label t.c t.d 512 c.imports.counter c.imports.from c.imports.import c.imports.at b.claim.fixups.now _ (omega arith) c.imports.invariant.left c.if-not-adds.ensures c.if-not-follows.ensures;
    }

pub returns : goal.returns
returns c =
    let b = c.args.self in
    let t = c.args.tested in
    numbered-end (labels_claimed b.claim) t.label t.c t.d 512 c.imports.counter c.imports.from c.imports.import c.imports.at b.claim.fixups.now _ (omega arith) c.imports.invariant.left
