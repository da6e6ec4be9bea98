-- The slots so far have the same in them.
use Rattle.std.proofs.Common.{◌≡◌, ◌+◌, ◌-◌, ℕ, length}
use Rattle.cfm_prepare.specs.Kept.Slots.{slot_at}
use Rattle.cfm_prepare.proofs.slots.grow.Given as goal

abbrev pub invariant-loop-slots : goal.invariant-loop-slots
invariant-loop-slots l = (p : ℕ) → slot_at l.slots.items p ≡ slot_at l.fn.slots.items p

abbrev pub decreases-loop-slots : goal.decreases-loop-slots
decreases-loop-slots l = l.position + 1 - length l.slots.items
