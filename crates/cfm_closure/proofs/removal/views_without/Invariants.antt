-- The places before this one have what is left.
use Rattle.std.proofs.Common.{◌≡◌, ◌==◌, length}
use Rattle.cfm_closure.specs.Kept.Removal.{AreFirst, is_marked, left_at}
use Rattle.cfm_closure.proofs.removal.views_without.Given as goal

abbrev pub invariant-loop-p : goal.invariant-loop-p
invariant-loop-p l = record {
  size : length l.left ≡ length l.views;
  first : AreFirst (left_at (λ p. p == l.place) l.views) l.p l.left;
}
