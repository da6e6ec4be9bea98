-- The connections that are left decide.
use Rattle.std.proofs.Common.{◌≡◌, drop}
use Rattle.cfm_prepare.specs.Kept.Connections.{open_in}
use Rattle.cfm_prepare.specs.Locations.{first_having}
use Rattle.cfm_prepare.proofs.connections.Connections.having.Given as goal

abbrev pub invariant-loop-slot : goal.invariant-loop-slot
invariant-loop-slot l = first_having (open_in (drop l.slot-index l.slot-items)) l.position ≡ first_having (open_in l.slot-items) l.position
