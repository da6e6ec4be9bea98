-- The fragments before this one don't have the address.
use Rattle.std.proofs.Common.{ℕ, ◌<◌}
use Rattle.cfm_prepare.specs.Fragments.{places_of}
use Rattle.cfm_prepare.specs.Locations.{IsInNone}
use Rattle.cfm_prepare.proofs.locations.section_with.Given as goal

abbrev pub invariant-loop-position : goal.invariant-loop-position
invariant-loop-position l = (p : ℕ) → p < l.position → IsInNone (places_of l.fragments.present p) l.address
