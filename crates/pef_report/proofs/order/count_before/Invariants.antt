-- What was counted, and what is left to be counted.
use Rattle.std.proofs.Common.{◌≡◌, ◌+◌, ◌≤◌, drop}
use Rattle.pef_report.specs.Order.{count_before}
use Rattle.pef_report.proofs.order.count_before.Given as goal

abbrev pub invariant-loop-finding : goal.invariant-loop-finding
invariant-loop-finding l = record {
  value : l.count + count_before l.rank (drop l.finding-index l.findings) ≡ count_before l.rank l.findings;
  below : l.count ≤ l.finding-index;
}
