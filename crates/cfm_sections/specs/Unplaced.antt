-- Why the sections of a container find no places. That they are placed in turn is this project's own rule.
use Rattle.std.specs.Prelude.{ℕ, zero, suc, List, [], ◌∷◌}
use Rattle.cfm_memory.specs.Extents.{Extent, HasNoPlaceBy, IsPlaceBy, Rule, rule_after}
use Rattle.cfm_memory.specs.Instances.{Layout}
use Rattle.cfm_memory.specs.Placement.{with_new}
use Rattle.cfm_memory.specs.declared.place.Place.{Place}
use Rattle.cfm_sections.specs.declared.places.Unplaced.{Unplaced}
use Rattle.cfm_sections.specs.declared.places.Unplaced.TheVariants.{NoRoom, OutOfMemory}

-- extent k of some is the first that has no place by a rule, after those before it
abbrev pub LacksPlaceFor : Rule → Layout → List Extent → ℕ → Type 0
LacksPlaceFor rule m [] k = ⊥
LacksPlaceFor rule m (e ∷ extents) zero = HasNoPlaceBy rule m e
LacksPlaceFor rule m (e ∷ extents) (suc k) = (p : Place) × IsPlaceBy rule m e p × LacksPlaceFor (rule_after rule 1) (with_new m p) extents k

-- some sections aren't placed by a rule
abbrev pub MayNotPlaceAll : Unplaced → Rule → Layout → List Extent → Type 0
MayNotPlaceAll (NoRoom section) rule m extents = LacksPlaceFor rule m extents section
MayNotPlaceAll OutOfMemory rule m extents = Unit {0}
