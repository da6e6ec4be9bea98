use Rattle.std.proofs.Common.{◌≡◌, ◌+◌, ◌∷◌, true, false, drop, sym, ◌∙◌, arith}
use borrow.Author.Count.{below_more}
use Rattle.pef_cert.specs.Kept.Claims.{labels_claimed}
use Rattle.pef_cert.specs.Kept.Tests.{label_of}
use Rattle.pef_cert.specs.LabelTests.{numbered_test}
use Rattle.pef_cert.proofs.KindLemmas.{numbered-here}
use Rattle.pef_cert.proofs.claim.CheckedSuffix.line_imports_hold.Goals as goal

pub returns-then-not-imports_hold : goal.returns-then-not-imports_hold
returns-then-not-imports_hold c =
    let failed = numbered-here c.args.self.claim c.args.under c.args.c c.loop-d.d c.args.import c.from-position.result c.state-tested.result false c.requires.under.here c.state-tested.ensures.is c.from-position.ensures c.if-not-imports_hold.ensures in
    (λ e. absurd (cc), λ all. sym failed ∙ all c.loop-d.d (omega (arith, c.loop-d-test.true, c.classes-d-end.ensures)))

pub loop-d-preserved : goal.loop-d-preserved
loop-d-preserved c =
    let b = c.args.self in
    let u = c.args.under in
    below_more (λ d. numbered_test (labels_claimed b.claim) (label_of (labels_claimed b.claim) u.fixup (drop (u.at + 1) b.claim.fixups.now) c.args.c d) c.args.c d 512 u.fixup.offset c.args.import (u.fixup ∷ drop (u.at + 1) b.claim.fixups.now) ≡ true) c.loop-d.d c.loop-d.invariant
    (numbered-here b.claim u c.args.c c.loop-d.d c.args.import c.from-position.result c.state-tested.result true c.requires.under.here c.state-tested.ensures.is c.from-position.ensures c.if-not-imports_hold.ensures)
