use Rattle.std.proofs.Common.{◌≡◌, ◌≤◌, ◌+◌, ◌*◌, drop, length, take}
use Rattle.pef_reloc.specs.Deliveries.{index_after}
use Rattle.pef_plan.specs.Runs.Ends.{EndsOf}
use Rattle.pef_plan.specs.Runs.Tables.{SameLabels}
use Rattle.pef_plan.specs.Kept.Tables.{TablesOf}
use Rattle.pef_plan.proofs.tables.fill_counted.Given as goal

abbrev pub decreases-fixups : goal.decreases-fixups
decreases-fixups o l = l.at

abbrev pub invariant-fixups : goal.invariant-fixups
invariant-fixups o l = record {
  inside : l.at ≤ length l.fixups;
  tables : TablesOf l.registers l.labels l.skips (index_after (take l.at l.fixups) 0) (drop l.at l.fixups);
  ends : EndsOf (λ labels. SameLabels labels l.registers l.labels.rows (length (drop l.at l.fixups))) (length l.registers + 1) (drop l.at l.fixups) l.ends;
  row_len : length l.row.items ≡ (length l.registers + 1) * (length l.registers + 1);
  line_len : length l.line.items ≡ length l.registers + 1;
}
