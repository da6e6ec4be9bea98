-- The rest of the order is still to be counted.
use Rattle.std.proofs.Common.{◌≡◌, ◌<◌, ◌^◌, ℕ, List, true, drop, length}
use Rattle.cfm_prepare.specs.Lists.{IsOnce, has}
use Rattle.cfm_prepare.specs.Kept.Users.{CountsMore, count_at}
use Rattle.cfm_prepare.proofs.users.enter.Given as goal

abbrev pub invariant-loop-position : goal.invariant-loop-position
invariant-loop-position l = record {
  once : IsOnce (drop l.position-index l.order);
  inside : (p : ℕ) → has (drop l.position-index l.order) p ≡ true → p < length l.users.items;
  few : (p : ℕ) → has (drop l.position-index l.order) p ≡ true → count_at l.users.items p < 2 ^ 63;
  rest : (after : List ℕ) → CountsMore (drop l.position-index l.order) l.users.items after → CountsMore l.order l.fn.users.items after;
}
