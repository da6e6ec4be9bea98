use Rattle.std.proofs.Common.{◌+◌, ◌<◌, ◌≤◌, ℕ, length}
use Rattle.pef_plan.specs.Runs.Tables.{label_in}
use Rattle.pef_plan.proofs.reading.step_at.Given as goal

abbrev pub invariant-loop-class : goal.invariant-loop-class
invariant-loop-class l = record {
  by_c : (e : ℕ) → e < l.class → l.label ≤ label_in (length l.known.registers.now + 1) l.known.labels.now.rows (length l.here.place.left.now) e l.d;
  by_d : (e : ℕ) → e < l.class → l.label ≤ label_in (length l.known.registers.now + 1) l.known.labels.now.rows (length l.here.place.left.now) l.c e;
}
