use Rattle.std.proofs.Common.{◌≤◌, drop, take, length}
use Rattle.pef_reloc.specs.Deliveries.{index_after}
use Rattle.pef_cert.specs.Feasible.{FeasibleFrom}
use Rattle.pef_cert.specs.Kept.Claims.{IsRowOf, Swept, labels_claimed}
use Rattle.pef_cert.proofs.claim.Claim.start_value.Given as goal

abbrev pub decreases-fixups : goal.decreases-fixups
decreases-fixups l = l.at

abbrev pub invariant-fixups : goal.invariant-fixups
invariant-fixups l = record {
  under : l.at ≤ length l.self.fixups.now;
  row : IsRowOf l.self.kept.ends.now l.row l.at;
  swept : Swept l.self l.rows l.skips l.at;
  feasible : FeasibleFrom (labels_claimed l.self) (index_after (take l.at l.self.fixups.now) 0) (drop l.at l.self.fixups.now);
}
