use Rattle.std.proofs.Common.{◌+◌, drop, refl}
use borrow.Author.Count.{below_more}
use Rattle.pef_cert.specs.Kept.Claims.{labels_claimed}
use Rattle.pef_cert.specs.Kept.Tests.{LineImports}
use Rattle.pef_cert.proofs.claim.CheckedSuffix.import_runs_hold.Goals as goal

pub loop-c-preserved : goal.loop-c-preserved
loop-c-preserved c =
    let b = c.args.self in
    let u = c.args.under in
    below_more (λ x. LineImports (labels_claimed b.claim) c.args.import u.fixup (drop (u.at + 1) b.claim.fixups.now) x) c.loop-c.c c.loop-c.invariant (c.if-not-line_imports_hold.ensures.0 refl)
