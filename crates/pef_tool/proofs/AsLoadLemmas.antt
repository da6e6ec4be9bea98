-- `prepare` and `load` prepare the same store, and files have the memory that `load` prints.
use Rattle.std.proofs.Common.{◌≡◌, ◌+◌, ◌∷◌, List, [], ℕ, ap, map, refl, sym, subst, unwrap_or}
use Rattle.cfm_files.specs.Sections.{files_from, fragment_name}
use Rattle.cfm_memory.specs.Instances.{Layout, bytes_at}
use Rattle.cfm_memory.specs.declared.place.Place.{Place}
use Rattle.cfm_prepare.specs.Contexts.{fresh_state}
use Rattle.cfm_prepare.specs.Fragments.{places_of}
use Rattle.cfm_prepare.specs.Steps.{Prepares}
use Rattle.cfm_store.specs.Stores.{Pair}
use Rattle.pef_tool.specs.Fragment.{placed_section}
use Rattle.pef_tool.specs.Limits.{memory_limit}
use Rattle.pef_tool.specs.Load.{context_of}
use Rattle.pef_tool.specs.Prepare.{root_name}
use Rattle.pef_tool.specs.PreparedAsLoaded.{FilesHoldMemory, PreparesAsLoad}

pub as_load : PreparesAsLoad
as_load found stubs named contents s number same name prepared =
    let P : List Pair → Type 0 = λ pairs. Prepares (fresh_state pairs memory_limit) (root_name found) number s in
    let Q : List ℕ → Type 0 = λ n. Prepares (context_of named contents) n number s in
    (subst Q (sym name) (subst P (sym same) prepared), refl)

-- the sections from number i on
same_bytes : (m : Layout) (folder fragment : List ℕ) (i : ℕ) (places : List Place) → map (λ file. file.bytes) (files_from m folder fragment i places) ≡ map (λ section. section.bytes) (map (placed_section m) places)
same_bytes m folder fragment i [] = refl
same_bytes m folder fragment i (place ∷ places) = ap (λ (rest : List (List ℕ)). unwrap_or (bytes_at m.instances place.address) [] ∷ rest) (same_bytes m folder fragment (i + 1) places)

pub files_hold : FilesHoldMemory
files_hold s folder p = same_bytes s.memory folder (fragment_name s p) 0 (places_of s.present p)
