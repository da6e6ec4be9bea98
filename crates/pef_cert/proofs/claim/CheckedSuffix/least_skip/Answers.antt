use Rattle.std.proofs.Common.{◌+◌, ◌-◌, Some, drop, ap, sym, ◌∙◌, arith}
use Rattle.pef_reloc.specs.declared.fixup.Base.TheVariants.{Section}
use Rattle.std.proofs.Math.Path.{ap₂}
use Rattle.pef_cert.specs.Extension.{extension, skip}
use Rattle.pef_cert.specs.Minima.{lesser}
use Rattle.pef_cert.specs.Labels.{class_of}
use Rattle.pef_cert.specs.Kept.Claims.{labels_claimed}
use Rattle.pef_cert.proofs.ClaimLemmas.{get_under, knows-sees}
use Rattle.pef_cert.proofs.ClassLemmas.{class_of-below}
use Rattle.pef_cert.proofs.FeasibleLemmas.{section-counts}
use Rattle.pef_cert.proofs.SkipLemmas.{skip-end, skip-first, skip-next, skip-stop}
use Rattle.pef_cert.proofs.StepLemmas.{adds_inside, word_end-added, word_end-after}
use Rattle.pef_cert.proofs.claim.CheckedSuffix.least_skip.Goals as goal

pub value-least-requires-clause-sees : goal.value-least-requires-clause-sees
value-least-requires-clause-sees c =
    let b = c.args.self in
    let under = get_under b.claim.fixups.now c.args.at c.args.fixup c.requires.skips.here in
    knows-sees b (c.args.at + 1) (c.args.at + 1) c.requires.skips.knows (omega arith) (omega arith) (omega (arith, under))

pub value-least-requires-clause-after : goal.value-least-requires-clause-after
value-least-requires-clause-after c =
    let end = word_end-after c.args.self.claim.fixups.now c.args.at c.args.fixup c.requires.skips.here in
    omega (arith, end, c.from-position.ensures)

pub value-least-requires-clause-d : goal.value-least-requires-clause-d
value-least-requires-clause-d c = let low = class_of-below (labels_claimed c.args.self.claim) c.args.section in omega (arith, low, c.class_of-class.ensures)

pub words-init : goal.words-init
words-init c =
    let b = c.args.self in
    let l = labels_claimed b.claim in
    let rest = drop (c.args.at + 1) b.claim.fixups.now in
    let under = get_under b.claim.fixups.now c.args.at c.args.fixup c.requires.skips.here in
    let counts = section-counts b.claim c.args.at c.args.section c.args.fixup c.requires.skips.knows.shaped c.requires.skips.here c.requires.skips.base in
    record {
      count = omega arith;
      end = omega arith;
      inside = omega (arith, under);
      position = omega (arith, c.from-position.ensures);
      small = omega (arith, c.value-least.ensures.small);
      left = ap (λ q. lesser (Some (1 + c.value-least.result)) (skip l 62 (q + 4) c.args.c (class_of b.claim.registers.now c.args.section) rest)) c.from-position.ensures
          ∙ skip-first l c.args.fixup rest c.args.c c.args.section (1 + c.value-least.result) c.requires.skips.base counts
          (ap (λ n. 1 + n) (c.value-least.ensures.is ∙ ap₂ (λ q n. extension l rest (q + 4) c.args.c n) c.from-position.ensures c.class_of-class.ensures));
    }

pub returns-then-not-adds : goal.returns-then-not-adds
returns-then-not-adds c =
    let b = c.args.self in
    let counts = section-counts b.claim c.args.at c.args.section c.args.fixup c.requires.skips.knows.shaped c.requires.skips.here c.requires.skips.base in
    record { is = skip-stop (labels_claimed b.claim) (62 - c.words.counter) c.words.position c.args.c c.args.section c.words.end c.words.least b.claim.fixups.now _ counts c.words.invariant.left c.if-not-adds.ensures }

pub value-requires-clause-sees : goal.value-requires-clause-sees
value-requires-clause-sees c =
    let b = c.args.self in
    let under = adds_inside b.claim.fixups.now c.words.end c.words.position (Section c.args.section) (sym c.if-not-adds.ensures) in
    knows-sees b (c.args.at + 1) (c.words.end + 1) c.requires.skips.knows (omega arith) (omega arith) (omega (arith, under))

pub value-requires-clause-after : goal.value-requires-clause-after
value-requires-clause-after c =
    let end = word_end-added c.args.self.claim.fixups.now c.words.end c.words.position (Section c.args.section) (sym c.if-not-adds.ensures) in
    omega (arith, end)

pub value-requires-clause-d : goal.value-requires-clause-d
value-requires-clause-d c = let low = class_of-below (labels_claimed c.args.self.claim) c.args.section in omega (arith, low, c.class_of-class.ensures)

pub words-preserved : goal.words-preserved
words-preserved c =
    let b = c.args.self in
    let l = labels_claimed b.claim in
    let counts = section-counts b.claim c.args.at c.args.section c.args.fixup c.requires.skips.knows.shaped c.requires.skips.here c.requires.skips.base in
    let under = adds_inside b.claim.fixups.now c.words.end c.words.position (Section c.args.section) (sym c.if-not-adds.ensures) in
    record {
      count = omega arith;
      end = omega arith;
      inside = omega (arith, under);
      position = omega arith;
      small = omega (arith, c.min-least.ensures);
      left = skip-next l 62 c.words.counter c.words.position c.args.c c.args.section c.words.end c.words.least c.min-least.result c.value.result b.claim.fixups.now _ (omega arith) counts c.words.invariant.left c.if-not-adds.ensures
          (c.value.ensures.is ∙ ap (λ n. extension l (drop (c.words.end + 1) b.claim.fixups.now) (c.words.position + 4) c.args.c n) c.class_of-class.ensures) c.min-least.ensures;
    }

pub returns : goal.returns
returns c =
    let b = c.args.self in
    record { is = skip-end (labels_claimed b.claim) 62 c.words.counter c.words.position c.args.c c.args.section c.words.end c.words.least b.claim.fixups.now _ (omega arith) c.words.invariant.left }
