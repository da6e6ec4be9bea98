-- Exports of the fragments of a connection's closure: what each is in its container, where it ends and its address (Mac OS
-- Runtime Architectures, "Code Fragment Manager", "Finding Symbols").
use Rattle.std.specs.Prelude.{ℕ, List, Option, None, Some, if◌then◌else◌, option_map}
use Rattle.std.specs.Option.{option_and_then}
use Rattle.std.specs.Result.{result_unwrap_or}
use Rattle.pef_format.specs.declared.export.ExportValue.{ExportValue}
use Rattle.pef_format.specs.declared.export.ExportValue.TheVariants.{InSection, Reexport}
use Rattle.pef_format.specs.declared.export.ExportValue.TheVariants as value
use Rattle.pef_format.specs.Exports.{Export, export_seen, value_of}
use Rattle.pef_loader.specs.Loader.{Loaded, export_of, named_of}
use Rattle.cfm_closure.specs.Fragments.{loader_at}
use Rattle.cfm_store.specs.Stores.{Pair}
use Rattle.cfm_closure.specs.Targets.{target_of}
use Rattle.cfm_closure.specs.declared.targets.Target.{Target}
use Rattle.cfm_closure.specs.declared.targets.Target.TheVariants.{Absolute, At}
use Rattle.cfm_prepare.specs.Contexts.{Open}
use Rattle.cfm_prepare.specs.Fragments.{Present}
use Rattle.cfm_prepare.specs.Lists.{has}
use Rattle.cfm_prepare.specs.Readers.{export_address}
use Rattle.cfm_prepare.specs.declared.exports.FragmentExport.{FragmentExport}

-- an export of a fragment: its number, what it is in the container, where it ends, and its address
pub record PlacedExport : Type 0 where
  pub number : ℕ
  pub export : Export
  pub target : Option Target
  pub address : ℕ

-- what an export is by its section and its value
abbrev pub meant : Export → ExportValue
meant x = value_of x.fields.section x.fields.value

-- what is returned of an export, without places in memory
abbrev pub placed_seen : FragmentExport → PlacedExport
placed_seen x = record { number = x.number; export = export_seen x.export; target = x.target; address = x.address }

-- where an export of a fragment ends: in a section of the fragment, at a number, or where the import ends that it passes on. None if
-- that import is missing
abbrev pub export_target : List Pair → ℕ → ExportValue → Option Target
export_target pairs p (InSection section offset) = Some (At p section offset)
export_target pairs p (value.Absolute number) = Some (Absolute number)
export_target pairs p (Reexport import) = result_unwrap_or (target_of pairs p import) None

-- export i of a fragment, as its loader section has it
abbrev pub placed_export : List Pair → List Present → ℕ → ℕ → Export → PlacedExport
placed_export pairs all p i x = record {
  number = i;
  export = x;
  target = export_target pairs p (meant x);
  address = export_address pairs all p (meant x);
}

-- export i of a fragment
abbrev pub placed_export_at : List Pair → List Present → ℕ → ℕ → Option PlacedExport
placed_export_at pairs all p i = option_map (placed_export pairs all p i) (option_and_then (λ l. export_of l i) (loader_at pairs p))

-- a fragment's first export with a name
abbrev pub placed_export_named : List Pair → List Present → ℕ → List ℕ → Option PlacedExport
placed_export_named pairs all p name =
    option_and_then (placed_export_at pairs all p) (option_and_then (λ l. named_of l name) (loader_at pairs p))

-- the loader section of a fragment, if a connection's closure has the fragment
abbrev pub fragment_loader : Open → ℕ → Option Loaded
fragment_loader o p = if has o.closed.order p then loader_at o.closed.pairs p else None

-- export i of a fragment, if a connection's closure has the fragment
abbrev pub fragment_export : List Present → Open → ℕ → ℕ → Option PlacedExport
fragment_export all o p i = if has o.closed.order p then placed_export_at o.closed.pairs all p i else None

-- the first export with a name of a fragment, if a connection's closure has the fragment
abbrev pub fragment_export_named : List Present → Open → ℕ → List ℕ → Option PlacedExport
fragment_export_named all o p name = if has o.closed.order p then placed_export_named o.closed.pairs all p name else None
