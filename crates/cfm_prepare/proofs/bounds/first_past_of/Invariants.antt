-- What is left is enough for the new fragments so far.
use Rattle.std.proofs.Common.{◌≡◌, drop}
use Rattle.cfm_prepare.specs.Fragments.{new_among}
use Rattle.cfm_prepare.specs.Kept.Bounds.{first_past, weight_of}
use Rattle.cfm_prepare.proofs.bounds.first_past_of.Given as goal

abbrev pub invariant-loop-position : goal.invariant-loop-position
invariant-loop-position l =
    first_past (weight_of l.measure l.closure.pairs) l.left (new_among l.present.items (drop l.position-index l.closure.order)) ≡ first_past (weight_of l.measure l.closure.pairs) l.most (new_among l.present.items l.closure.order)
