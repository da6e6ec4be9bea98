-- Where an address is: in which section of which fragment, and which export is the nearest at or before it (this
-- project's own).
use Rattle.std.specs.Prelude.{◌≡◌, ◌==◌, ℕ, ◌+◌, ◌<◌, ◌≤◌, List, [], ◌∷◌, Option, None, Some, MatchOption, if◌then◌else◌, length, option_map}
use Rattle.std.specs.Option.{option_and_then}
use Rattle.cfm_memory.specs.Extents.{place_at}
use Rattle.cfm_memory.specs.declared.place.Place.{Place}
use Rattle.pef_format.specs.declared.export.ExportValue.{ExportValue}
use Rattle.pef_format.specs.declared.export.ExportValue.TheVariants.{Absolute, InSection, Reexport}
use Rattle.pef_loader.specs.Loader.{Loaded, export_of}
use Rattle.cfm_closure.specs.Fragments.{loader_at}
use Rattle.cfm_store.specs.Stores.{Pair}
use Rattle.cfm_prepare.specs.Contexts.{ContextState, Open}
use Rattle.cfm_prepare.specs.FragmentExports.{PlacedExport, meant, placed_export_at, placed_seen}
use Rattle.cfm_prepare.specs.Fragments.{Present, places_of}
use Rattle.cfm_prepare.specs.Lists.{has}
use Rattle.cfm_prepare.specs.declared.locations.Location.{Location}

-- an address is this far into a place
abbrev pub IsInto : Place → ℕ → ℕ → Type 0
IsInto place address offset = (place.address + offset ≡ address) × (offset < place.size)

-- an address is this far into place k of some
abbrev pub IsIn : List Place → ℕ → ℕ → ℕ → Type 0
IsIn places address k offset = (k < length places) × IsInto (place_at places k) address offset

-- an address is in none of some places
abbrev pub IsInNone : List Place → ℕ → Type 0
IsInNone places address = (k offset : ℕ) → IsIn places address k offset → ⊥

-- the offset of an export in a section, if it is in this section
abbrev pub offset_in : ℕ → ExportValue → Option ℕ
offset_in section (InSection other offset) = if other == section then Some offset else None
offset_in section (Absolute number) = None
offset_in section (Reexport import) = None

-- the offset of export i in a section
abbrev pub export_offset : Loaded → ℕ → ℕ → Option ℕ
export_offset l section i = option_and_then (λ x. offset_in section (meant x)) (export_of l i)

-- none of the first n exports, which have these offsets, is at an offset or before it
abbrev pub HasNoneBefore : (ℕ → Option ℕ) → ℕ → ℕ → Type 0
HasNoneBefore offsets n offset = (j other : ℕ) → j < n → offsets j ≡ Some other → other ≤ offset → ⊥

-- of the first n exports, which have these offsets, export i is the nearest at an offset or before it: it has the greatest of these
-- offsets, and is the first that has it
pub record IsNearest (offsets : ℕ → Option ℕ) (n offset i own : ℕ) : Type 0 where
  pub below : i < n
  pub there : offsets i ≡ Some own
  pub before : own ≤ offset
  pub greatest : (j other : ℕ) → j < n → offsets j ≡ Some other → other ≤ offset → other ≤ own
  pub first : (j other : ℕ) → j < i → offsets j ≡ Some other → other ≤ offset → other < own

-- the nearest of the first n exports, if there is one, with its offset
abbrev pub IsNearestOf : (ℕ → Option ℕ) → ℕ → ℕ → Option (ℕ × ℕ) → Type 0
IsNearestOf offsets n offset nearest = MatchOption nearest (HasNoneBefore offsets n offset) (λ x. IsNearest offsets n offset x.0 x.1)

-- the nearest export of a fragment at an offset in a section or before it, or there is none
abbrev pub IsNearestIn : List Pair → List Present → ℕ → ℕ → ℕ → Option PlacedExport → Type 0
IsNearestIn pairs all p section offset nearest =
    (l : Loaded) × (loader_at pairs p ≡ Some l) × (number : Option (ℕ × ℕ))
    × IsNearestOf (export_offset l section) l.header.export_count offset number
    × (nearest ≡ option_and_then (λ x. placed_export_at pairs all p x.0) number)

-- the first of some connections whose closure has a fragment
abbrev pub first_having : List Open → ℕ → Option Open
first_having [] p = None
first_having (o ∷ os) p = if has o.closed.order p then Some o else first_having os p

-- where an address is: the number of a connection that has the fragment, the fragment, its section, the offset in it, and the
-- nearest export
pub record Located : Type 0 where
  pub connection : ℕ
  pub fragment : ℕ
  pub section : ℕ
  pub offset : ℕ
  pub nearest : Option PlacedExport

-- what is returned of an address, without places in memory
abbrev pub location_seen : Location → Located
location_seen x = record { connection = x.connection.0; fragment = x.fragment; section = x.section; offset = x.offset; nearest = option_map placed_seen x.nearest }

-- an address is there in a context, or in no section of a fragment that is present
abbrev pub IsLocated : ContextState → ℕ → Option Located → Type 0
IsLocated s address None = (p : ℕ) → IsInNone (places_of s.present p) address
IsLocated s address (Some x) =
    IsIn (places_of s.present x.fragment) address x.section x.offset
    × (o : Open) × (first_having s.connections x.fragment ≡ Some o) × (x.connection ≡ o.number)
    × IsNearestIn o.closed.pairs s.present x.fragment x.section x.offset x.nearest
