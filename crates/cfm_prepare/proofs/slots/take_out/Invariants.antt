-- The place is among those that are left.
use Rattle.std.proofs.Common.{◌≡◌, true, drop}
use Rattle.cfm_prepare.specs.Lists.{has}
use Rattle.cfm_prepare.proofs.slots.take_out.Given as goal

abbrev pub invariant-loop-i : goal.invariant-loop-i
invariant-loop-i l = record {
  left : has (drop l.i l.fn.order.items) l.position ≡ true;
  same : l.order.items ≡ l.fn.order.items;
}
