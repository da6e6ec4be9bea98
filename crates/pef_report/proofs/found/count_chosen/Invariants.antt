-- What was counted, and what is left to be counted.
use Rattle.std.proofs.Common.{◌≡◌, ◌+◌, ◌≤◌, drop}
use Rattle.pef_report.specs.Inspection.{count_chosen}
use Rattle.pef_report.proofs.found.count_chosen.Given as goal

abbrev pub invariant-loop-finding : goal.invariant-loop-finding
invariant-loop-finding l = record {
  value : l.count + count_chosen l.errors (drop l.finding-index l.findings) ≡ count_chosen l.errors l.findings;
  below : l.count ≤ l.finding-index;
}
