-- New fragments that were placed: what their sections hold then, before packed images are expanded.
use Rattle.std.specs.Prelude.{◌≡◌, ℕ, ◌<◌, List, [], ◌∷◌, length}
use Rattle.std.specs.Option.{option_map_or}
use Rattle.cfm_memory.specs.Extents.{Rule, place_at, with_filled}
use Rattle.cfm_memory.specs.Instances.{Layout}
use Rattle.cfm_closure.specs.Fragments.{container_at}
use Rattle.cfm_sections.specs.Begun.{placed_at}
use Rattle.cfm_store.specs.Stores.{Pair}
use Rattle.cfm_prepare.specs.Fragments.{Present, present_at}
use Rattle.cfm_prepare.specs.Kept.Ready.{HavePlaced}

-- section k of a fragment when it is placed
abbrev pub section_placed : List Pair → ℕ → ℕ → List ℕ
section_placed pairs p k = option_map_or (λ c. placed_at c k) (container_at pairs p) []

-- memory with the sections of some fragments, each with the bytes that are given for its fragment and its number
abbrev pub all_filled : Layout → List Present → (Present → ℕ → List ℕ) → Layout
all_filled m [] bytes = m
all_filled m (f ∷ fs) bytes = all_filled (with_filled m f.places (bytes f)) fs bytes

-- the bytes that are given for a fragment have the sizes of its places
abbrev pub HaveSizes : (ℕ → List ℕ) → Present → Type 0
HaveSizes bytes f = (k : ℕ) → k < length f.places → length (bytes k) ≡ (place_at f.places k).size

-- fragments with new positions were placed by a rule after those that exist, each section with the bytes that it has then
pub record HavePlacedWith (rule : Rule) (pairs : List Pair) (m : Layout) (there : List Present) (new : List ℕ) (now : List Present) (after : Layout) : Type 0 where
  pub empty : Layout
  pub have : HavePlaced rule pairs m there new now empty
  pub sizes : (j : ℕ) → j < length have.fresh → HaveSizes (section_placed pairs (present_at have.fresh j).position) (present_at have.fresh j)
  pub filled : after ≡ all_filled m have.fresh (λ f. section_placed pairs f.position)
