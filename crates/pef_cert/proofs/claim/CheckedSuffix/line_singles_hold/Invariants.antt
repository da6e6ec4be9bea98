use Rattle.std.proofs.Common.{◌≡◌, ◌+◌, ◌<◌, ℕ, true, drop}
use Rattle.pef_cert.specs.Kept.Claims.{labels_claimed}
use Rattle.pef_cert.specs.Kept.Tests.{single_test}
use Rattle.pef_cert.proofs.claim.CheckedSuffix.line_singles_hold.Given as goal

abbrev pub invariant-loop-d : goal.invariant-loop-d
invariant-loop-d l = (d : ℕ) → d < l.d → single_test (labels_claimed l.self.claim) l.cost l.under.fixup (drop (l.under.at + 1) l.self.claim.fixups.now) l.c d ≡ true
