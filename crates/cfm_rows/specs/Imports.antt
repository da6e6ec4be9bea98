-- The imports of a prepared fragment as objects of JSON.
use Rattle.std.specs.Prelude.{ℕ, zero, suc, ◌+◌, ◌==◌, Bool, true, List, [], ◌++◌, Option, None, Some, codes, decimal, option_map}
use Rattle.std.specs.Option.{option_and_then, option_map_or}
use Rattle.cfm_prepare.specs.Contexts.{ContextState, open_of}
use Rattle.cfm_prepare.specs.FragmentExports.{fragment_loader}
use Rattle.cfm_prepare.specs.Readers.{import_target_of}
use Rattle.cfm_prepare.specs.declared.imports.ImportTarget.{ImportTarget}
use Rattle.pef_format.specs.Symbols.{Import, class_of}
use Rattle.pef_format.specs.declared.import.ImportFields.{ImportFields}
use Rattle.pef_loader.specs.CutNames.{CutName}
use Rattle.pef_loader.specs.Loader.{Loaded, import_of, library_of}
use Rattle.pef_rows.specs.Codes.{class_member}
use Rattle.pef_rows.specs.Objects.{separator}
use Rattle.pef_rows.specs.Tokens.{number_or_null, row_member, truth}

-- a name that is known to its end
abbrev pub whole_name : List ℕ → CutName
whole_name name = record { bytes = name; whole = true }

-- an import: its name, that of its library, its class, whether it may be missing, and the address that it means, if it has one
pub record ImportIs : Type 0 where
  pub name : List ℕ
  pub library : List ℕ
  pub fields : ImportFields
  pub address : Option ℕ

unfoldable pub import_object : ImportIs → List ℕ
import_object x =
    codes "{" ++ row_member (codes "name") (Some (whole_name x.name)) ++ codes "," ++ row_member (codes "library") (Some (whole_name x.library))
    ++ codes ",\"class\":" ++ decimal x.fields.class ++ class_member (class_of x.fields.class) ++ codes ",\"weak\":" ++ truth x.fields.weak
    ++ codes ",\"address\":" ++ number_or_null x.address ++ codes "}"

-- the name of a library
abbrev pub library_name : Loaded → ℕ → List ℕ
library_name l i = option_map_or (λ x. x.name) (library_of l i) []

-- an import that was read, with the address that it means
abbrev pub import_is : Loaded → Option ℕ → Option Import → Option ImportIs
import_is l address x = option_map (λ i. record { name = i.name; library = library_name l i.library; fields = i.fields; address = address }) x

-- one after a comma, if it isn't the first
abbrev pub import_element : Bool → Option ImportIs → List ℕ
import_element is_first None = []
import_element is_first (Some x) = separator is_first ++ import_object x

-- the address of what an import means, if it isn't missing
abbrev pub meant_address : Option ImportTarget → Option ℕ
meant_address None = None
meant_address (Some t) = option_map (λ target. t.address) t.target

-- the same for import j of a fragment of a connection
abbrev pub address_in : ContextState → ℕ → ℕ → ℕ → Option ℕ
address_in s number p j = meant_address (option_and_then (λ o. import_target_of s.present o p j) (open_of s.connections number))

-- import j of a fragment
abbrev pub import_at : ContextState → ℕ → ℕ → Loaded → ℕ → Option ImportIs
import_at s number p l j = import_is l (address_in s number p j) (import_of l j)

-- the next n imports of a fragment from import j on
abbrev pub import_elements : ContextState → ℕ → ℕ → Loaded → ℕ → ℕ → List ℕ
import_elements s number p l j zero = []
import_elements s number p l j (suc n) = import_element (j == 0) (import_at s number p l j) ++ import_elements s number p l (j + 1) n

abbrev pub loader_imports : ContextState → ℕ → ℕ → Option Loaded → List ℕ
loader_imports s number p None = []
loader_imports s number p (Some l) = import_elements s number p l 0 l.header.import_count

-- the loader section of a fragment of a connection
abbrev pub loader_in : ContextState → ℕ → ℕ → Option Loaded
loader_in s number p = option_and_then (λ o. fragment_loader o p) (open_of s.connections number)

-- all its imports
abbrev pub imports_list : ContextState → ℕ → ℕ → List ℕ
imports_list s number p = loader_imports s number p (loader_in s number p)
