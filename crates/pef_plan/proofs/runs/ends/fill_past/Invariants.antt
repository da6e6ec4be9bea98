use Rattle.std.proofs.Common.{◌≡◌, ◌+◌, ◌<◌, ℕ, length, slice_index}
use Rattle.pef_plan.proofs.runs.ends.fill_past.Given as goal

abbrev pub invariant-classes : goal.invariant-classes
invariant-classes l = record {
  len : length l.past ≡ length l.fn.past;
  are : (c : ℕ) → c < l.c → slice_index l.past c ≡ 2 + slice_index l.column c;
}
