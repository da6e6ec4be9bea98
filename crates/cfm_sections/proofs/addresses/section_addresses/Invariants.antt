use Rattle.std.proofs.Common.{◌≡◌, ◌++◌, drop, map}
use Rattle.cfm_memory.specs.declared.place.Place.{Place}
use Rattle.cfm_sections.proofs.addresses.section_addresses.Given as goal

abbrev pub invariant-loop-place : goal.invariant-loop-place
invariant-loop-place l = l.addresses.items ++ map (λ (p : Place). p.address) (drop l.place-index l.places) ≡ map (λ (p : Place). p.address) l.places
