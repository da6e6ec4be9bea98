use Rattle.std.proofs.Common.{◌≡◌, ◌+◌, ◌-◌, ◌*◌, ◌≤◌, drop, length}
use Rattle.pef_cert.specs.Kept.Claims.{labels_claimed}
use Rattle.pef_cert.specs.LabelTests.{row_test}
use Rattle.pef_cert.proofs.claim.CheckedSuffix.row_holds.Given as goal

abbrev pub invariant-words : goal.invariant-words
invariant-words l = record {
  count : l.counter ≤ 512;
  at : l.at ≡ l.tested.at + l.counter;
  inside : l.at ≤ length l.self.claim.fixups.now;
  from : l.from ≤ l.position + 12 * l.counter;
  left : row_test (labels_claimed l.self.claim) l.tested.label l.stride l.base l.tested.c l.tested.d (512 - l.counter) l.from (drop l.at l.self.claim.fixups.now)
      ≡ row_test (labels_claimed l.self.claim) l.tested.label l.stride l.base l.tested.c l.tested.d 512 l.position (drop l.tested.at l.self.claim.fixups.now);
}
