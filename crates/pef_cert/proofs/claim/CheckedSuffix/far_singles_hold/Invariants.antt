use Rattle.std.proofs.Common.{◌+◌, ◌<◌, ℕ, drop}
use Rattle.pef_cert.specs.Kept.Claims.{labels_claimed}
use Rattle.pef_cert.specs.Kept.Tests.{LineSingles}
use Rattle.pef_cert.proofs.claim.CheckedSuffix.far_singles_hold.Given as goal

abbrev pub invariant-loop-c : goal.invariant-loop-c
invariant-loop-c l = (c : ℕ) → c < l.c → LineSingles (labels_claimed l.self.claim) l.cost l.under.fixup (drop (l.under.at + 1) l.self.claim.fixups.now) c
