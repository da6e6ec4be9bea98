use Rattle.std.proofs.Common.{◌≡◌, ◌+◌, ◌<◌, ℕ, Some, drop, length, slice_index}
use Rattle.pef_cert.specs.Extension.{skips_at}
use Rattle.pef_cert.specs.Labels.{class_of}
use Rattle.pef_cert.specs.Kept.Claims.{labels_claimed}
use Rattle.pef_cert.proofs.claim.CheckedSuffix.section_skips.Given as goal
use Rattle.pef_reloc.specs.Limits.{most_sections}

abbrev pub invariant-loop-c : goal.invariant-loop-c
invariant-loop-c l = record {
  len : length l.least ≡ most_sections + 1;
  are : (c : ℕ) → c < l.c → skips_at (labels_claimed l.self.claim) l.fixup (drop (l.at + 1) l.self.claim.fixups.now) c (class_of l.self.claim.registers.now l.section) ≡ Some (slice_index l.least c);
}
