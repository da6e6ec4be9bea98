-- The sections that a preparation would place, in the order in which it places them, and the memory that each needs (Mac OS
-- Runtime Architectures, "PEF Structure", section headers: totalSize, sectionKind, shareKind, alignment).
use Rattle.std.specs.Prelude.{◌≡◌, ℕ, zero, suc, ◌+◌, List, [], ◌∷◌, ◌++◌}
use Rattle.std.specs.Option.{option_map_or}
use Rattle.cfm_memory.specs.Placement.{step_of, taken}
use Rattle.cfm_closure.specs.Fragments.{container_at}
use Rattle.cfm_store.specs.Stores.{Pair}
use Rattle.pef_views.specs.Container.{Contained, section_of}
use Rattle.cfm_prepare.specs.Contexts.{ContextState}
use Rattle.cfm_sections.specs.Images.{extent_at}
use Rattle.cfm_prepare.specs.Steps.{HasClosure, IsWithin, MayNotPrepare, new_of}
use Rattle.cfm_prepare.specs.declared.fault.PrepareFault.{PrepareFault}
use Rattle.cfm_prepare.specs.declared.fault.PrepareFault.TheVariants as fault
use Rattle.cfm_prepare.specs.declared.new_sections.NewSection.{NewSection}

-- section k of the container of a fragment, in memory with a granule
abbrev pub new_section : ℕ → ℕ → Contained → ℕ → NewSection
new_section granule p c k = record {
  fragment = p;
  section = k;
  size = taken granule (extent_at c k).size;
  alignment = step_of granule (extent_at c k).alignment;
  section_kind = option_map_or (λ s. s.header.section_kind) (section_of c k) 0;
  share_kind = option_map_or (λ s. s.header.share_kind) (section_of c k) 0;
}

-- n of them from a number on
abbrev pub sections_from : ℕ → ℕ → Contained → ℕ → ℕ → List NewSection
sections_from granule p c from zero = []
sections_from granule p c from (suc n) = new_section granule p c from ∷ sections_from granule p c (from + 1) n

-- all that are instantiated
abbrev pub container_sections : ℕ → ℕ → Contained → List NewSection
container_sections granule p c = sections_from granule p c 0 c.header.instantiated_section_count

-- the sections of some fragments of a store, one fragment after another
abbrev pub new_sections_of : List Pair → ℕ → List ℕ → List NewSection
new_sections_of pairs granule [] = []
new_sections_of pairs granule (p ∷ ps) = option_map_or (container_sections granule p) (container_at pairs p) [] ++ new_sections_of pairs granule ps

-- these are the sections that a preparation of the fragment with a name would place: it has a closure, and its new fragments
-- take no more than the context allows
pub record AreNewSections (s : ContextState) (name : List ℕ) (sections : List NewSection) : Type 0 where
  pub closure : HasClosure s name
  pub within : IsWithin s (new_of s closure.closed)
  pub are : sections ≡ new_sections_of s.pairs s.memory.granule (new_of s closure.closed)

-- why they can't be told: a preparation would be refused before it places anything, or an allocation fails
abbrev pub MayNotTellSections : ContextState → List ℕ → PrepareFault → Type 0
MayNotTellSections s name fault.TooManyConnections = MayNotPrepare s name fault.TooManyConnections
MayNotTellSections s name fault.RootMissing = MayNotPrepare s name fault.RootMissing
MayNotTellSections s name (fault.Bind f) = MayNotPrepare s name (fault.Bind f)
MayNotTellSections s name (fault.TooManyBytes f) = MayNotPrepare s name (fault.TooManyBytes f)
MayNotTellSections s name (fault.TooManyStepsInAll f) = MayNotPrepare s name (fault.TooManyStepsInAll f)
MayNotTellSections s name (fault.Fragment f) = ⊥
MayNotTellSections s name fault.OutOfMemory = MayNotPrepare s name fault.OutOfMemory
