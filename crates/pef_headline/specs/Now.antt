-- When a fragment of a context has the memory that a script describes (docs/SCRIPTS.md, `section`, `bytes`, `fix`,
-- `tvector`), with the present addresses.
use Rattle.std.specs.Prelude.{ℕ, List, length, map}
use Rattle.cfm_store.specs.Stores.{Pair}
use Rattle.cfm_sections.specs.Prepared.{addresses_at}
use Rattle.cfm_memory.specs.Extents.{ArePlacedBy, Extent, Rule, Stand}
use Rattle.cfm_memory.specs.Instances.{Layout}
use Rattle.cfm_prepare.specs.Addresses.{addresses_from}
use Rattle.cfm_prepare.specs.Fragments.{places_of}
use Rattle.cfm_prepare.specs.Contexts.{ContextState}
use Rattle.pef_reloc.specs.Applied.{address_of}
use Rattle.pef_script.specs.Described.{described_at}
use Rattle.pef_script.specs.Script.{DescribedScript, DescribedSection}

-- the memory that a section needs
abbrev pub described_extent : DescribedSection → Extent
described_extent s = record { size = s.header.total; alignment = s.header.align }

-- the memory that each section of a script needs, in order
abbrev pub described_extents : DescribedScript → List Extent
described_extents script = map described_extent script.sections

-- each section of the script has a place of the section's length and alignment. Each in turn was the one by a rule in the
-- memory `before`, with those before it: the lowest with room, or the next of some addresses. The headline says which rule and
-- which memory these are. In the memory of now each place
-- holds exactly the bytes that the script describes, under the addresses that the fragment's sections and its imports'
-- targets have now (0 for an import that has no target)
pub record IsDescribedNow (pairs : List Pair) (s : ContextState) (script : DescribedScript) (p : ℕ) : Type 0 where
  pub rule : Rule
  pub before : Layout
  pub empty : Layout
  pub placed : ArePlacedBy rule before (described_extents script) (places_of s.present p) empty
  pub stand : Stand s.memory (places_of s.present p) (described_at (address_of (addresses_at (places_of s.present p) (addresses_from pairs s.present p 0 (length script.imports)))) script)
