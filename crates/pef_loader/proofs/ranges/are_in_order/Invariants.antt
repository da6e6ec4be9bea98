-- The ranges so far follow one another, and the last of them ends here.
use Rattle.std.proofs.Common.{◌≡◌, ℕ, ◌+◌, ◌<◌, ◌≤◌}
use Rattle.pef_loader.specs.Kept.Ranges.{end_of, first_of}
use Rattle.pef_loader.proofs.ranges.are_in_order.Given as goal

abbrev pub invariant-loop-i : goal.invariant-loop-i
invariant-loop-i l = record {
  follow : (k : ℕ) → k + 1 < l.i → end_of l.tables.cut.bytes.now k ≤ first_of l.tables.cut.bytes.now (k + 1);
  none : l.i ≡ 0 → l.end ≡ 0;
  last : (k : ℕ) → k + 1 ≡ l.i → l.end ≡ end_of l.tables.cut.bytes.now k;
}
