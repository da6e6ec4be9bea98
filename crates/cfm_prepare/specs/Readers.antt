-- What a context reports about its connections: the sections of their roots, the entry points of their
-- fragments, and the exports of these (Mac OS Runtime Architectures, "Code Fragment Manager", "Finding
-- Symbols").
use Rattle.std.specs.Prelude.{ℕ, Bool, false, List, [], ◌∷◌, Option, None, Some, if◌then◌else◌, nat_lt, option_map, reverse}
use Rattle.std.specs.Option.{option_and_then, option_map_or}
use Rattle.std.specs.Result.{result_unwrap_or}
use Rattle.pef_format.specs.declared.export.ExportValue.{ExportValue}
use Rattle.pef_format.specs.declared.export.ExportValue.TheVariants.{Absolute, InSection, Reexport}
use Rattle.pef_format.specs.Exports.{value_of}
use Rattle.pef_views.specs.Container.{section_of}
use Rattle.pef_views.specs.declared.section.SectionHeader.{SectionHeader}
use Rattle.pef_loader.specs.Loader.{export_of, init_of, main_of, named_of, term_of}
use Rattle.cfm_store.specs.Stores.{Pair, place_of}
use Rattle.cfm_closure.specs.Fragments.{container_at, import_count, loader_at}
use Rattle.cfm_closure.specs.Targets.{target_of}
use Rattle.cfm_closure.specs.declared.targets.Target.TheVariants.{At}
use Rattle.cfm_sections.specs.Prepared.{entry_address}
use Rattle.cfm_sections.specs.declared.entries.Entries.{Entries}
use Rattle.cfm_prepare.specs.declared.imports.ImportTarget.{ImportTarget}
use Rattle.cfm_prepare.specs.Addresses.{import_address, target_address}
use Rattle.cfm_prepare.specs.Fragments.{Present, is_present, places_of}
use Rattle.cfm_prepare.specs.Lists.{has}
use Rattle.cfm_prepare.specs.Sections.{section_present}
use Rattle.cfm_prepare.specs.Contexts.{ContextState, Open, is_needed, open_of, open_without}

-- whether the first fragment with a name is present; not if there is none
abbrev pub has_present : ContextState → List ℕ → Bool
has_present s name = option_map_or (is_present s.present) (place_of s.pairs name) false

-- section i of a connection's root
abbrev pub root_section : ContextState → ℕ → ℕ → Option (ℕ × List ℕ)
root_section s number i = option_and_then (λ o. section_present s.memory s.present o.root i) (open_of s.connections number)

-- the address of an export of a fragment: in a section, an absolute number, or that of the import that it
-- passes on
abbrev pub export_address : List Pair → List Present → ℕ → ExportValue → ℕ
export_address pairs all p (InSection section offset) = target_address all (Some (At p section offset))
export_address pairs all p (Absolute number) = number
export_address pairs all p (Reexport import) = import_address pairs all p import

-- the address of a fragment's first export with a name
abbrev pub symbol_at : List Pair → List Present → ℕ → List ℕ → Option ℕ
symbol_at pairs all p name =
    option_map (λ x. export_address pairs all p (value_of x.fields.section x.fields.value))
    (option_and_then (λ l. option_and_then (export_of l) (named_of l name)) (loader_at pairs p))

-- the address of the first export with a name of a connection's root
abbrev pub symbol_address : List Present → Open → List ℕ → Option ℕ
symbol_address all o name = symbol_at o.closed.pairs all o.root name

-- the address of a fragment's first export with a name, if a connection's closure has the fragment
abbrev pub symbol_of : List Present → Open → ℕ → List ℕ → Option ℕ
symbol_of all o p name = if has o.closed.order p then symbol_at o.closed.pairs all p name else None

-- the address of export number i of a fragment
abbrev pub export_at : List Pair → List Present → ℕ → ℕ → Option ℕ
export_at pairs all p i = option_map (λ x. export_address pairs all p (value_of x.fields.section x.fields.value)) (option_and_then (λ l. export_of l i) (loader_at pairs p))

-- the address of export number i of a fragment, if a connection's closure has the fragment
abbrev pub numbered_export : List Present → Open → ℕ → ℕ → Option ℕ
numbered_export all o p i = if has o.closed.order p then export_at o.closed.pairs all p i else None

-- what import j of a fragment means: its target, and the address that was added for it
abbrev pub import_at : List Pair → List Present → ℕ → ℕ → ImportTarget
import_at pairs all p j = record { target = result_unwrap_or (target_of pairs p j) None; address = import_address pairs all p j }

-- what import j of a fragment means, if a connection's closure has the fragment, and it has so many imports
abbrev pub import_target_of : List Present → Open → ℕ → ℕ → Option ImportTarget
import_target_of all o p j =
    if has o.closed.order p then (if nat_lt j (import_count o.closed.pairs p) then Some (import_at o.closed.pairs all p j) else None) else None

-- the fragments among some that no connection needs
abbrev pub needless_among : List Open → List ℕ → List ℕ
needless_among os [] = []
needless_among os (p ∷ ps) = if is_needed os p then needless_among os ps else p ∷ needless_among os ps

-- the fragments that closing a connection releases: those that no other connection needs, the last to be initialized
-- first
abbrev pub released_by : ContextState → ℕ → Option (List ℕ)
released_by s number =
    option_map (λ o. reverse (needless_among (open_without s.connections number) o.closed.init_order)) (open_of s.connections number)

-- the header of section i in the container of a fragment that a connection's closure has
abbrev pub section_header_of : Open → ℕ → ℕ → Option SectionHeader
section_header_of o p i =
    if has o.closed.order p then option_map (λ s. s.header) (option_and_then (λ c. section_of c i) (container_at o.closed.pairs p)) else None

-- the address of the main entry of a connection's root
abbrev pub main_address : List Present → Open → Option ℕ
main_address all o = entry_address (places_of all o.root) (option_and_then main_of (loader_at o.closed.pairs o.root))

-- the addresses of a fragment's entry points
abbrev pub entries_at : List Pair → List Present → ℕ → Entries
entries_at pairs all p = record {
  init = entry_address (places_of all p) (option_and_then init_of (loader_at pairs p));
  main = entry_address (places_of all p) (option_and_then main_of (loader_at pairs p));
  term = entry_address (places_of all p) (option_and_then term_of (loader_at pairs p));
}

-- the addresses of a fragment's entry points, if a connection's closure has the fragment
abbrev pub entries_of : List Present → Open → ℕ → Option Entries
entries_of all o p = if has o.closed.order p then Some (entries_at o.closed.pairs all p) else None
