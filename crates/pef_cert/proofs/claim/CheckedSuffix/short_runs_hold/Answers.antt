use Rattle.std.proofs.Common.{◌≡◌, ◌+◌, true, drop, sym}
use borrow.Author.Count.{below_more}
use Rattle.pef_cert.specs.Kept.Claims.{labels_claimed}
use Rattle.pef_cert.specs.Kept.Tests.{runs_of_c, runs_of_d}
use Rattle.pef_cert.specs.Labels.{class_of}
use Rattle.pef_cert.proofs.claim.CheckedSuffix.short_runs_hold.Goals as goal

pub loop-other-preserved : goal.loop-other-preserved
loop-other-preserved c =
    let l = labels_claimed c.args.self.claim in
    let u = c.args.under in
    let rest = drop (u.at + 1) c.args.self.claim.fixups.now in
    let k = c.args.section in
    below_more (λ x. (runs_of_c l k u.fixup rest (class_of c.args.self.claim.registers.now k) x ≡ true) × (runs_of_d l k u.fixup rest x (class_of c.args.self.claim.registers.now k) ≡ true)) c.loop-other.other c.loop-other.invariant
    (rw (← c.class_of-class.ensures) (sym c.if-not-c_pairs_hold.ensures, sym c.if-not-d_spaced_hold.ensures))
