-- What the calls return and write that read the exports of a fragment, find an import by its name, and say where an address is.
use Rattle.std.specs.Prelude.{◌≡◌, ◌==◌, ℕ, Bool, true, false, List, [], Option, None, Some, MatchBool, option_map}
use Rattle.std.specs.Option.{is_some, option_and_then, option_map_or}
use Rattle.pef_format.specs.declared.export.ExportValue.{ExportValue}
use Rattle.pef_format.specs.declared.export.ExportValue.TheVariants.{Absolute, InSection, Reexport}
use Rattle.pef_loader.specs.ImportNames.{named_import_of}
use Rattle.pef_loader.specs.Loader.{Loaded}
use Rattle.cfm_prepare.specs.Contexts.{ContextState, open_of}
use Rattle.cfm_prepare.specs.FragmentExports.{PlacedExport, fragment_export, fragment_export_named, fragment_loader, meant}
use Rattle.cfm_prepare.specs.Locations.{IsLocated, Located}
use Rattle.pef_c.specs.Contexts.Reading.{target_shown}
use Rattle.pef_records.specs.declared.structs.PefFragmentExport.{PefFragmentExport}
use Rattle.pef_records.specs.declared.structs.PefLocation.{PefLocation}
use Rattle.pef_records.specs.declared.structs.PefTarget.{PefTarget}

-- an export of a fragment as C sees it: its name and number, where it ends, the import that it passes on, if it does, and its class
pub record ExportRow : Type 0 where
  pub name : List ℕ
  pub number : ℕ
  pub target : PefTarget
  pub import : ℕ
  pub class : ℕ
  pub is_reexport : Bool

-- the import that an export passes on; 0 for others
abbrev pub import_passed : ExportValue → ℕ
import_passed (InSection section offset) = 0
import_passed (Absolute number) = 0
import_passed (Reexport import) = import

-- whether an export passes an import on
abbrev pub is_passed : ExportValue → Bool
is_passed (InSection section offset) = false
is_passed (Absolute number) = false
is_passed (Reexport import) = true

abbrev pub export_row : PlacedExport → ExportRow
export_row x = record {
  name = x.export.name;
  number = x.number;
  target = target_shown x.target x.address;
  import = import_passed (meant x.export);
  class = x.export.fields.class;
  is_reexport = is_passed (meant x.export);
}

-- what stands in the place of an export if there is none
abbrev pub no_export : ExportRow
no_export = record { name = []; number = 0; target = target_shown None 0; import = 0; class = 0; is_reexport = false }

-- the row that a struct holds
abbrev pub export_shown : PefFragmentExport → ExportRow
export_shown v = record { name = v.name.now; number = v.number; target = v.target; import = v.import_number; class = v.class; is_reexport = v.is_reexport }

-- the loader section of a fragment of a connection's closure
abbrev pub loader_of : ContextState → ℕ → ℕ → Option Loaded
loader_of s number p = option_and_then (λ o. fragment_loader o p) (open_of s.connections number)

-- how many exports a fragment of a connection's closure has
abbrev pub exports_of : ContextState → ℕ → ℕ → Option ℕ
exports_of s number p = option_map (λ l. l.header.export_count) (loader_of s number p)

-- export i of a fragment of a connection's closure, as C sees it
abbrev pub export_row_of : ContextState → ℕ → ℕ → ℕ → Option ExportRow
export_row_of s number p i = option_map export_row (option_and_then (λ o. fragment_export s.present o p i) (open_of s.connections number))

-- the first export with a name of a fragment of a connection's closure, as C sees it
abbrev pub named_row_of : ContextState → ℕ → ℕ → List ℕ → Option ExportRow
named_row_of s number p name = option_map export_row (option_and_then (λ o. fragment_export_named s.present o p name) (open_of s.connections number))

-- the first import with a name of a fragment of a connection's closure
abbrev pub import_of : ContextState → ℕ → ℕ → List ℕ → Option ℕ
import_of s number p name = option_and_then (λ l. named_import_of l name) (loader_of s number p)

-- where an address is, as C sees it
pub record LocationRow : Type 0 where
  pub fragment : ℕ
  pub section : ℕ
  pub connection : ℕ
  pub offset : ℕ
  pub has_nearest : Bool
  pub nearest : ExportRow

abbrev pub location_row : Located → LocationRow
location_row x = record {
  fragment = x.fragment;
  section = x.section;
  connection = x.connection;
  offset = x.offset;
  has_nearest = is_some x.nearest;
  nearest = option_map_or export_row x.nearest no_export;
}

-- the row that a struct holds
abbrev pub location_shown : PefLocation → LocationRow
location_shown v = record { fragment = v.fragment; section = v.section; connection = v.connection; offset = v.offset; has_nearest = v.has_nearest; nearest = export_shown v.nearest }

-- 0, and where an address is; or 201, if it is in no section of a fragment that is present, and nothing is written
abbrev pub AtIn : ℕ → ContextState → LocationRow → LocationRow → ℕ → Type 0
AtIn address s old new answer =
    MatchBool (answer == 0) ((x : Located) × IsLocated s address (Some x) × (new ≡ location_row x)) ((answer ≡ 201) × IsLocated s address None × (new ≡ old))

-- what `pef_at` returns and writes: 202, and nothing is written, if the context isn't open
abbrev pub AtAnswers : ℕ → Option ContextState → LocationRow → LocationRow → ℕ → Type 0
AtAnswers address None old new answer = (answer ≡ 202) × (new ≡ old)
AtAnswers address (Some s) old new answer = AtIn address s old new answer
