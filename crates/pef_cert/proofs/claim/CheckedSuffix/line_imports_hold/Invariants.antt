use Rattle.std.proofs.Common.{◌≡◌, ◌+◌, ◌<◌, ◌∷◌, ℕ, true, drop}
use Rattle.pef_cert.specs.Kept.Claims.{labels_claimed}
use Rattle.pef_cert.specs.Kept.Tests.{label_of}
use Rattle.pef_cert.specs.LabelTests.{numbered_test}
use Rattle.pef_cert.proofs.claim.CheckedSuffix.line_imports_hold.Given as goal

abbrev pub invariant-loop-d : goal.invariant-loop-d
invariant-loop-d l = (d : ℕ) → d < l.d → numbered_test (labels_claimed l.self.claim) (label_of (labels_claimed l.self.claim) l.under.fixup (drop (l.under.at + 1) l.self.claim.fixups.now) l.c d) l.c d 512 l.under.fixup.offset l.import (l.under.fixup ∷ drop (l.under.at + 1) l.self.claim.fixups.now) ≡ true
