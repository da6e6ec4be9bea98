use Rattle.std.proofs.Common.{◌+◌, ◌<◌, ℕ, drop}
use Rattle.pef_cert.specs.Kept.Claims.{labels_claimed}
use Rattle.pef_cert.specs.Kept.Tests.{LineImports}
use Rattle.pef_cert.proofs.claim.CheckedSuffix.import_runs_hold.Given as goal

abbrev pub invariant-loop-c : goal.invariant-loop-c
invariant-loop-c l = (c : ℕ) → c < l.c → LineImports (labels_claimed l.self.claim) l.import l.under.fixup (drop (l.under.at + 1) l.self.claim.fixups.now) c
