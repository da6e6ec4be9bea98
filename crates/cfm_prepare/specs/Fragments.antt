-- How a fragment of a store is prepared: the memory that its sections need, the bytes that they are filled
-- with, and the effect of its relocation headers (Mac OS Runtime Architectures, "PEF Structure"). A fragment
-- that can't be read has no sections.
use Rattle.std.specs.Prelude.{◌≡◌, ◌⊎◌, ℕ, ◌<◌, ◌==◌, Bool, false, true, List, [], ◌∷◌, ◌++◌, Option, None, if◌then◌else◌, length, map, option_map, slice_index_or}
use Rattle.std.specs.Option.{option_and_then, option_map_or, option_or}
use Rattle.cfm_memory.specs.Extents.{Extent, Stand, empty_memory, given_back}
use Rattle.cfm_memory.specs.Instances.{Layout}
use Rattle.cfm_memory.specs.declared.place.Place.{Place}
use Rattle.cfm_sections.specs.declared.image_fault.ImageFault.{ImageFault}
use Rattle.pef_reloc.specs.Applied.{Addresses}
use Rattle.pef_loader.specs.declared.program_fault.ProgramFault.{ProgramFault}
use Rattle.cfm_store.specs.Stores.{Pair, pair_of}
use Rattle.cfm_closure.specs.Fragments.{container_at, loader_at}
use Rattle.cfm_sections.specs.Images.{extents_of, filled_at, first_image_refusal}
use Rattle.cfm_sections.specs.Prepared.{first_reloc_refusal, prepared_at}

-- a fragment that has a place in memory: its place in the store, and the places of its instantiated sections
pub record Present : Type 0 where
  pub position : ℕ
  pub places : List Place

-- a memory, and the fragments that are present in it, in the order in which they were placed
pub record Presence : Type 0 where
  pub memory : Layout
  pub present : List Present

-- no fragment is present
abbrev pub none_present : ℕ → ℕ → Presence
none_present granule limit = record { memory = empty_memory granule limit; present = [] }

-- fragment j of some; past the last one, one without sections
abbrev pub present_at : List Present → ℕ → Present
present_at fs j = slice_index_or fs j (record { position = 0; places = [] })

abbrev pub positions : List Present → List ℕ
positions fs = map (λ (f : Present). f.position) fs

-- the sections of the first of some fragments with a position; none if there is none
abbrev pub places_of : List Present → ℕ → List Place
places_of [] p = []
places_of (f ∷ fs) p = if f.position == p then f.places else places_of fs p

-- the fragment with a position, and the places that it has among some
abbrev pub present_of : List Present → ℕ → Present
present_of all p = record { position = p; places = places_of all p }

-- whether one of some fragments has a position
abbrev pub is_present : List Present → ℕ → Bool
is_present [] p = false
is_present (f ∷ fs) p = if f.position == p then true else is_present fs p

-- the positions that have no fragment, in their order
abbrev pub new_among : List Present → List ℕ → List ℕ
new_among fs [] = []
new_among fs (p ∷ ps) = if is_present fs p then new_among fs ps else p ∷ new_among fs ps

-- the memory that a fragment's sections need, in order
abbrev pub extents_in : List Pair → ℕ → List Extent
extents_in pairs p = option_map_or extents_of (container_at pairs p) []

-- section k of a fragment before it is relocated
abbrev pub section_filled : List Pair → ℕ → ℕ → List ℕ
section_filled pairs p k = option_map_or (λ c. filled_at c k) (container_at pairs p) []

-- the first refusal among the images of a fragment
abbrev pub image_refusal_in : List Pair → ℕ → Option ImageFault
image_refusal_in pairs p = option_and_then (λ c. first_image_refusal c c.header.instantiated_section_count) (container_at pairs p)

-- section k of a fragment, relocated under some addresses
abbrev pub prepared_in : List Pair → Addresses → ℕ → ℕ → List ℕ
prepared_in pairs a p k = option_map_or (λ c. option_map_or (λ l. prepared_at c l a k) (loader_at pairs p) []) (container_at pairs p) []

-- the first refusal among the relocation headers of a fragment, under some addresses
abbrev pub reloc_refusal_in : List Pair → Addresses → ℕ → Option ProgramFault
reloc_refusal_in pairs a p = option_and_then (λ c. option_and_then (λ l. first_reloc_refusal c l a) (loader_at pairs p)) (container_at pairs p)

-- a refusal with the name of its fragment
abbrev pub named : {F : Type 0} → List Pair → ℕ → Option F → Option (List ℕ × F)
named pairs p refusal = option_map (λ f. ((pair_of pairs p).name, f)) refusal

-- the first refusal among the images of some fragments
abbrev pub first_bad_image : List Pair → List Present → Option (List ℕ × ImageFault)
first_bad_image pairs [] = None
first_bad_image pairs (f ∷ fs) = option_or (named pairs f.position (image_refusal_in pairs f.position)) (first_bad_image pairs fs)

-- each section of some fragments has the bytes that are given for its fragment and its number
abbrev pub StandAll : Layout → List Present → (Present → ℕ → List ℕ) → Type 0
StandAll m fs bytes = (j : ℕ) → j < length fs → Stand m (present_at fs j).places (bytes (present_at fs j))

-- memory without the sections of some fragments
abbrev pub all_given_back : Layout → List Present → Layout
all_given_back m [] = m
all_given_back m (f ∷ fs) = all_given_back (given_back m f.places) fs

-- the fragment with a position was removed
pub record IsTaken (fs now : List Present) (p : ℕ) (places : List Place) : Type 0 where
  pub front : List Present
  pub back : List Present
  pub was : fs ≡ front ++ (record { position = p; places = places }) ∷ back
  pub is : now ≡ front ++ back
  pub gone : is_present now p ≡ false

-- the fragment with a position was released, or there was none
abbrev pub IsGivenBack : Layout → List Present → ℕ → Layout → List Present → Type 0
IsGivenBack m fs p after now =
    ((is_present fs p ≡ false) × (now ≡ fs) × (after ≡ m))
    ⊎ ((places : List Place) × IsTaken fs now p places × (after ≡ given_back m places))
