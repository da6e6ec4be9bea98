-- The fragments of a store as they are read: a container and its loader section (Mac OS Runtime
-- Architectures, "PEF Structure").
use Rattle.std.specs.Prelude.{ℕ, List, Option, None, option_map, Result, Ok, Err}
use Rattle.std.specs.Option.{option_and_then, option_map_or}
use Rattle.std.specs.Result.{result_ok}
use Rattle.pef_format.specs.Places.{placed_from}
use Rattle.pef_format.specs.Symbols.{Import}
use Rattle.pef_format.specs.declared.place.Part.{Part}
use Rattle.pef_format.specs.declared.place.Part.TheVariants as part
use Rattle.pef_format.specs.declared.place.Place.{Place}
use Rattle.pef_views.specs.Container.{Contained, container_of}
use Rattle.pef_views.specs.declared.fault.ViewFault.{ViewFault}
use Rattle.pef_loader.specs.Faults.{fault_place as loader_fault_place}
use Rattle.pef_loader.specs.Loader.{Loaded, import_of, loaded_of}
use Rattle.pef_loader.specs.Places.{place_of as container_place}
use Rattle.pef_loader.specs.declared.fault.LoaderFault.{LoaderFault}
use Rattle.cfm_store.specs.Stores.{Pair, pair_of}
use Rattle.cfm_closure.specs.Faults.{BindRefusal, no_container, no_loader}

pub record Fragment : Type 0 where
  pub name : List ℕ
  pub container : Contained
  pub loader : Loaded

abbrev pub with_loader : List ℕ → Contained → Result Loaded LoaderFault → Result Fragment BindRefusal
with_loader name c (Ok l) = Ok (record { name = name; container = c; loader = l })
with_loader name c (Err fault) = Err (no_loader name fault (loader_fault_place c fault))

abbrev pub with_container : List ℕ → Result Contained ViewFault → Result Fragment BindRefusal
with_container name (Ok c) = with_loader name c (loaded_of c.header.instantiated_section_count c.loader)
with_container name (Err fault) = Err (no_container name fault)

-- the fragment in a place, or the first refusal of its container and its loader section
unfoldable pub fragment_of : List Pair → ℕ → Result Fragment BindRefusal
fragment_of pairs p = with_container (pair_of pairs p).name (container_of (pair_of pairs p).bytes)

-- the container of the fragment in a place, if it can be read
abbrev pub container_at : List Pair → ℕ → Option Contained
container_at pairs p = option_map (λ f. f.container) (result_ok (fragment_of pairs p))

-- the loader section of the fragment in a place, if it can be read
abbrev pub loader_at : List Pair → ℕ → Option Loaded
loader_at pairs p = option_map (λ f. f.loader) (result_ok (fragment_of pairs p))

-- how many libraries, imports and exports the fragment in a place has
abbrev pub library_count : List Pair → ℕ → ℕ
library_count pairs p = option_map_or (λ l. l.header.library_count) (loader_at pairs p) 0

abbrev pub import_count : List Pair → ℕ → ℕ
import_count pairs p = option_map_or (λ l. l.header.import_count) (loader_at pairs p) 0

abbrev pub export_count : List Pair → ℕ → ℕ
export_count pairs p = option_map_or (λ l. l.header.export_count) (loader_at pairs p) 0

-- import j of the fragment in a place
abbrev pub import_at : List Pair → ℕ → ℕ → Option Import
import_at pairs p j = option_and_then (λ l. import_of l j) (loader_at pairs p)

-- the place of a field of a part of a fragment
unfoldable pub part_place : Fragment → Part → ℕ → ℕ → Place
part_place f kind row field = container_place f.container kind row field

-- the place of a field of a part of the fragment in a position of the store, without an offset if it can't
-- be read
unfoldable pub place_at : List Pair → ℕ → Part → ℕ → ℕ → Place
place_at pairs p kind row field = option_map_or (λ f. part_place f kind row field) (result_ok (fragment_of pairs p)) (placed_from None kind row field)

-- the place of import j (classAndName)
abbrev pub import_place : List Pair → ℕ → ℕ → Place
import_place pairs p j = place_at pairs p part.Import j 0
