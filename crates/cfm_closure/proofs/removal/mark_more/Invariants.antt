-- If none was marked, the fragments before this one need no marked one.
use Rattle.std.proofs.Common.{◌≡◌, ◌<◌, ℕ, false}
use Rattle.cfm_closure.specs.Kept.Removal.{IsApart, StayMarked}
use Rattle.cfm_closure.proofs.removal.mark_more.Given as goal

abbrev pub invariant-loop-p : goal.invariant-loop-p
invariant-loop-p l = record {
  stay : StayMarked l.fn.marks l.marks;
  apart : l.more ≡ false → (k : ℕ) → k < l.p → IsApart l.store l.rows l.marks k;
}
