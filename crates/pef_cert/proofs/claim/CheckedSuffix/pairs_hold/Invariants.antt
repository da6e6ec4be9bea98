use Rattle.std.proofs.Common.{◌≡◌, ◌+◌, ◌-◌, ◌*◌, ◌≤◌, drop, length}
use Rattle.pef_cert.specs.Kept.Claims.{labels_claimed}
use Rattle.pef_cert.specs.LabelTests.{pairs_test}
use Rattle.pef_cert.proofs.claim.CheckedSuffix.pairs_hold.Given as goal

abbrev pub invariant-pairs : goal.invariant-pairs
invariant-pairs l = record {
  count : l.counter ≤ 512;
  at : l.at ≡ l.tested.at + 2 * l.counter;
  inside : l.at ≤ length l.self.claim.fixups.now;
  from : l.from ≤ l.position + 12 * l.counter;
  left : pairs_test (labels_claimed l.self.claim) l.tested.label l.run.stride l.run.first l.run.second l.tested.c l.tested.d (512 - l.counter) l.from (drop l.at l.self.claim.fixups.now)
      ≡ pairs_test (labels_claimed l.self.claim) l.tested.label l.run.stride l.run.first l.run.second l.tested.c l.tested.d 512 l.position (drop l.tested.at l.self.claim.fixups.now);
}
