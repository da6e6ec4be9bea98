-- What the new fragments of a preparation take: bytes of memory, and steps of their relocation programs (Mac OS Runtime
-- Architectures, "PEF Structure", section headers: totalSize; the relocation instruction set). That a context may bound
-- them is this project's own rule.
use Rattle.std.specs.Prelude.{◌≡◌, ℕ, ◌+◌, ◌<◌, ◌≤◌, List, [], ◌∷◌, ◌++◌, Option, None, Some}
use Rattle.std.specs.Option.{option_map_or}
use Rattle.cfm_memory.specs.Extents.{Extent}
use Rattle.cfm_memory.specs.Placement.{taken}
use Rattle.cfm_closure.specs.Fragments.{loader_at}
use Rattle.cfm_store.specs.Stores.{Pair}
use Rattle.cfm_prepare.specs.Fragments.{extents_in}
use Rattle.pef_loader.specs.Loader.{Loaded, reloc_of}
use Rattle.pef_reloc.specs.Headers.{steps_by}

-- the bytes that some extents take in memory with a granule
abbrev pub bytes_of : ℕ → List Extent → ℕ
bytes_of granule [] = 0
bytes_of granule (e ∷ extents) = taken granule e.size + bytes_of granule extents

-- the bytes that the sections of a fragment take in memory with a granule
abbrev pub bytes_in : List Pair → ℕ → ℕ → ℕ
bytes_in pairs granule p = bytes_of granule (extents_in pairs p)

-- the steps that the relocation programs of a fragment take, up to the first that can't be read
abbrev pub steps_in : List Pair → ℕ → ℕ
steps_in pairs p = option_map_or (λ (l : Loaded). steps_by (reloc_of l) 0 l.header.reloc_count) (loader_at pairs p) 0

-- what some fragments take together
abbrev pub total : (ℕ → ℕ) → List ℕ → ℕ
total weight [] = 0
total weight (p ∷ ps) = weight p + total weight ps

-- some fragments take no more than a bound, if there is one
abbrev pub AreWithin : Option ℕ → (ℕ → ℕ) → List ℕ → Type 0
AreWithin None weight ps = Unit {0}
AreWithin (Some most) weight ps = total weight ps ≤ most

-- the fragments before this one take no more than a bound, and with this one they take more
pub record IsFirstPast (most : ℕ) (weight : ℕ → ℕ) (ps : List ℕ) (p : ℕ) : Type 0 where
  pub front : List ℕ
  pub back : List ℕ
  pub is : ps ≡ front ++ p ∷ back
  pub within : total weight front ≤ most
  pub past : most < total weight front + weight p

-- there is a bound, and this is the first fragment with which they take more than it
abbrev pub PassesAt : Option ℕ → (ℕ → ℕ) → List ℕ → ℕ → Type 0
PassesAt None weight ps p = ⊥
PassesAt (Some most) weight ps p = IsFirstPast most weight ps p
