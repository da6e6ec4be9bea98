use Rattle.std.proofs.Common.{◌≡◌, ◌+◌, ◌<◌, ℕ, true, drop}
use Rattle.pef_cert.specs.Kept.Claims.{labels_claimed}
use Rattle.pef_cert.specs.Kept.Tests.{runs_of_c, runs_of_d}
use Rattle.pef_cert.specs.Labels.{class_of}
use Rattle.pef_cert.proofs.claim.CheckedSuffix.long_runs_hold.Given as goal

abbrev pub invariant-loop-other : goal.invariant-loop-other
invariant-loop-other l = (x : ℕ) → x < l.other
    → (runs_of_c (labels_claimed l.self.claim) l.section l.under.fixup (drop (l.under.at + 1) l.self.claim.fixups.now) (class_of l.self.claim.registers.now l.section) x ≡ true)
    × (runs_of_d (labels_claimed l.self.claim) l.section l.under.fixup (drop (l.under.at + 1) l.self.claim.fixups.now) x (class_of l.self.claim.registers.now l.section) ≡ true)
