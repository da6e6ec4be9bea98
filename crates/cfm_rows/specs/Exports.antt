-- The exports of a prepared fragment as objects of JSON.
use Rattle.std.specs.Prelude.{ℕ, zero, suc, ◌+◌, ◌==◌, Bool, List, [], ◌++◌, Option, None, Some, codes, decimal, option_map}
use Rattle.std.specs.Option.{option_and_then}
use Rattle.cfm_prepare.specs.Contexts.{ContextState, open_of}
use Rattle.cfm_prepare.specs.FragmentExports.{PlacedExport, fragment_export}
use Rattle.pef_format.specs.Symbols.{class_of}
use Rattle.pef_loader.specs.Loader.{Loaded}
use Rattle.pef_rows.specs.Codes.{class_member}
use Rattle.pef_rows.specs.Objects.{separator}
use Rattle.pef_rows.specs.Tokens.{number_or_null, row_member}
use Rattle.cfm_rows.specs.Imports.{loader_in, whole_name}

-- the address of an export; none if it passes on an import that is missing
abbrev pub export_address : PlacedExport → Option ℕ
export_address x = option_map (λ target. x.address) x.target

-- an export: its name, its class and its address
unfoldable pub export_object : PlacedExport → List ℕ
export_object x =
    codes "{" ++ row_member (codes "name") (Some (whole_name x.export.name)) ++ codes ",\"class\":" ++ decimal x.export.fields.class
    ++ class_member (class_of x.export.fields.class) ++ codes ",\"address\":" ++ number_or_null (export_address x) ++ codes "}"

-- one after a comma, if it isn't the first
abbrev pub export_element : Bool → Option PlacedExport → List ℕ
export_element is_first None = []
export_element is_first (Some x) = separator is_first ++ export_object x

-- export i of a fragment of a connection
abbrev pub export_in : ContextState → ℕ → ℕ → ℕ → Option PlacedExport
export_in s number p i = option_and_then (λ o. fragment_export s.present o p i) (open_of s.connections number)

-- the next n exports of a fragment from export i on
abbrev pub export_elements : ContextState → ℕ → ℕ → ℕ → ℕ → List ℕ
export_elements s number p i zero = []
export_elements s number p i (suc n) = export_element (i == 0) (export_in s number p i) ++ export_elements s number p (i + 1) n

abbrev pub loader_exports : ContextState → ℕ → ℕ → Option Loaded → List ℕ
loader_exports s number p None = []
loader_exports s number p (Some l) = export_elements s number p 0 l.header.export_count

-- all its exports
abbrev pub exports_list : ContextState → ℕ → ℕ → List ℕ
exports_list s number p = loader_exports s number p (loader_in s number p)
