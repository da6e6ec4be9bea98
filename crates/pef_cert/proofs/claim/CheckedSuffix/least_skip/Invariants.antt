use Rattle.std.proofs.Common.{◌≡◌, ◌+◌, ◌-◌, ◌*◌, ◌^◌, ◌≤◌, Some, drop, length}
use Rattle.pef_cert.specs.Extension.{skip, skips_at}
use Rattle.pef_cert.specs.Labels.{class_of}
use Rattle.pef_cert.specs.Minima.{lesser}
use Rattle.pef_cert.specs.Kept.Claims.{labels_claimed}
use Rattle.pef_cert.proofs.claim.CheckedSuffix.least_skip.Given as goal

abbrev pub invariant-words : goal.invariant-words
invariant-words l = record {
  count : l.counter ≤ 62;
  end : l.end ≡ l.at + 1 + l.counter;
  inside : l.end ≤ length l.self.claim.fixups.now;
  position : l.position ≤ l.fn.fixup.offset + 4 + 4 * l.counter;
  small : l.least ≤ 2 ^ 32 + 2;
  left : lesser (Some l.least) (skip (labels_claimed l.self.claim) (62 - l.counter) l.position l.c (class_of l.self.claim.registers.now l.section) (drop l.end l.self.claim.fixups.now))
      ≡ skips_at (labels_claimed l.self.claim) l.fn.fixup (drop (l.at + 1) l.self.claim.fixups.now) l.c (class_of l.self.claim.registers.now l.section);
}
