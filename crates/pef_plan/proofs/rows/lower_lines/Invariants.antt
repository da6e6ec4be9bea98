use Rattle.std.proofs.Common.{◌≡◌, ◌*◌, ◌<◌, ◌≤◌, ℕ, length, slice_index}
use Rattle.pef_plan.proofs.CrossLemmas.{LineLowered}
use Rattle.pef_plan.proofs.rows.lower_lines.Given as goal

abbrev pub invariant-lines : goal.invariant-lines
invariant-lines l = record {
  len : length l.row ≡ length l.fn.row;
  are : (c : ℕ) → c < l.c → LineLowered (length l.tops) l.fn.row l.tops l.row l.cross c;
  others : (i : ℕ) → l.c * length l.tops ≤ i → slice_index l.row i ≡ slice_index l.fn.row i;
}
