use Rattle.std.proofs.Common.{◌≡◌, ◌+◌, ◌-◌, ◌*◌, ◌≤◌, drop, length, take}
use Rattle.pef_reloc.specs.Deliveries.{index_after}
use Rattle.pef_cert.specs.Kept.Claims.{labels_claimed}
use Rattle.pef_cert.specs.LabelTests.{numbered_test}
use Rattle.pef_cert.proofs.claim.CheckedSuffix.imports_hold.Given as goal

abbrev pub invariant-imports : goal.invariant-imports
invariant-imports l = record {
  count : l.counter ≤ 512;
  at : l.at ≡ l.tested.at + l.counter;
  inside : l.at ≤ length l.self.claim.fixups.now;
  from : l.from ≤ l.position + 12 * l.counter;
  import : l.import ≡ l.first + l.counter;
  index : l.import ≡ index_after (take l.at l.self.claim.fixups.now) 0;
  left : numbered_test (labels_claimed l.self.claim) l.tested.label l.tested.c l.tested.d (512 - l.counter) l.from l.import (drop l.at l.self.claim.fixups.now)
      ≡ numbered_test (labels_claimed l.self.claim) l.tested.label l.tested.c l.tested.d 512 l.position l.first (drop l.tested.at l.self.claim.fixups.now);
}
