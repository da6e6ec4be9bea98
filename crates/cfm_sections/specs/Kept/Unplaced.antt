-- Why a section finds no place.
use Rattle.std.specs.Prelude.{◌≡◌, ℕ}
use Rattle.cfm_memory.specs.Extents.{Extent, HasNoPlaceBy, Rule}
use Rattle.cfm_memory.specs.Instances.{Layout}
use Rattle.cfm_memory.specs.declared.place.MemoryFault.{MemoryFault}
use Rattle.cfm_memory.specs.declared.place.MemoryFault.TheVariants as memory
use Rattle.cfm_sections.specs.declared.places.Unplaced.{Unplaced}
use Rattle.cfm_sections.specs.declared.places.Unplaced.TheVariants.{NoRoom, OutOfMemory}

-- the first extent isn't placed by a rule
abbrev pub MayRefuseBy : Rule → Layout → Extent → MemoryFault → Type 0
MayRefuseBy rule m e memory.NoRoom = HasNoPlaceBy rule m e
MayRefuseBy rule m e memory.OutOfMemory = Unit {0}

-- section k isn't placed by a rule
abbrev pub MayRefuseFor : Rule → Layout → Extent → ℕ → Unplaced → Type 0
MayRefuseFor rule m e k (NoRoom section) = (section ≡ k) × HasNoPlaceBy rule m e
MayRefuseFor rule m e k OutOfMemory = Unit {0}
