use Rattle.std.proofs.Common.{◌≡◌, ◌++◌, drop}
use Rattle.cfm_prepare.specs.Fragments.{new_among}
use Rattle.cfm_prepare.proofs.slots.new_among.Given as goal

abbrev pub invariant-loop-position : goal.invariant-loop-position
invariant-loop-position l = l.new.items ++ new_among l.present.items (drop l.position-index l.order) ≡ new_among l.present.items l.order
