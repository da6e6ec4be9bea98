use Rattle.std.proofs.Common.{◌≡◌, ◌≤◌, drop, length}
use Rattle.std.specs.Prelude.{reverse}
use Rattle.pef_plan.proofs.windows.close.CloseRows.reversed.Given as goal

abbrev pub decreases-rows : goal.decreases-rows
decreases-rows l = l.left

abbrev pub invariant-rows : goal.invariant-rows
invariant-rows l = record {
  inside : l.left ≤ length l.self.rows;
  wide : length l.row.items ≡ l.self.width;
  made : l.rows ≡ record { width = l.self.width; rows = reverse (drop l.left l.self.rows) };
}
