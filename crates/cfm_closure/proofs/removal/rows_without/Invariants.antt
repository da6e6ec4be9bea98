-- The places before this one have what is left.
use Rattle.std.proofs.Common.{◌≡◌, ◌==◌, length}
use Rattle.cfm_closure.specs.Kept.Removal.{AreFirst, is_marked, left_at}
use Rattle.cfm_closure.proofs.removal.rows_without.Given as goal

abbrev pub invariant-loop-p : goal.invariant-loop-p
invariant-loop-p l = record {
  size : length l.left ≡ length l.rows;
  first : AreFirst (left_at (is_marked l.marks) l.rows) l.p l.left;
}
