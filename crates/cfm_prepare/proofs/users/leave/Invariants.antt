-- The rest of the order is still to be counted.
use Rattle.std.proofs.Common.{◌≡◌, ◌<◌, ℕ, List, true, drop}
use Rattle.cfm_prepare.specs.Lists.{IsOnce, has}
use Rattle.cfm_prepare.specs.Kept.Users.{CountsMore, count_at}
use Rattle.cfm_prepare.proofs.users.leave.Given as goal

abbrev pub invariant-loop-position : goal.invariant-loop-position
invariant-loop-position l = record {
  once : IsOnce (drop l.position-index l.order);
  used : (p : ℕ) → has (drop l.position-index l.order) p ≡ true → 0 < count_at l.users.items p;
  rest : (before : List ℕ) → CountsMore (drop l.position-index l.order) before l.users.items → CountsMore l.order before l.fn.users.items;
}
