-- The symbols that fragments import from a library, by the library's name (docs/RULES.md, "Stubs").
use Rattle.std.specs.Prelude.{◌≡◌, ⊤, ℕ, zero, suc, ◌+◌, ◌||◌, Bool, false, List, [], ◌∷◌, ◌++◌, Option, None, Some, fold, if◌then◌else◌}
use Rattle.std.specs.List.{flat_map}
use Rattle.std.specs.Option.{option_map_or}
use Rattle.std.specs.Str.{bytes_eq}
use Rattle.pef_format.specs.Symbols.{Import}
use Rattle.pef_loader.specs.Loader.{Loaded, import_of, library_of}

-- an import is one from a library with this name
abbrev pub is_from : Loaded → List ℕ → Import → Bool
is_from l library i = option_map_or (λ entry. bytes_eq entry.name library) (library_of l i.library) false

-- an import, if it is there and is one from this library
abbrev pub own_import : Loaded → List ℕ → Option Import → List Import
own_import l library None = []
own_import l library (Some i) = if is_from l library i then i ∷ [] else []

-- those from this library among the n imports from import j on
abbrev pub own_imports : Loaded → List ℕ → ℕ → ℕ → List Import
own_imports l library j zero = []
own_imports l library j (suc n) = own_import l library (import_of l j) ++ own_imports l library (j + 1) n

-- all imports of a fragment from a library
abbrev pub imports_from : List ℕ → Loaded → List Import
imports_from library l = own_imports l library 0 l.header.import_count

-- all imports of some fragments from a library, fragment by fragment
abbrev pub all_imports : List Loaded → List ℕ → List Import
all_imports loaders library = flat_map (imports_from library) loaders

-- a symbol: its name and the code of its class
pub record Symbol : Type 0 where
  pub name : List ℕ
  pub class : ℕ

-- one of the symbols has this name
abbrev pub are_named : List Symbol → List ℕ → Bool
are_named [] name = false
are_named (s ∷ symbols) name = bytes_eq name s.name || are_named symbols name

-- the symbols with that of one more import. If the name is there, it keeps the class that it has: fragments are bound by
-- names alone
abbrev pub with_symbol : List Symbol → Import → List Symbol
with_symbol symbols i = if are_named symbols i.name then symbols else symbols ++ (record { name = i.name; class = i.fields.class }) ∷ []

-- the symbols of some imports, each name once, in the order in which the names are met
abbrev pub symbols_of : List Import → List Symbol
symbols_of imports = fold with_symbol [] imports

-- no two symbols have one name
abbrev pub HaveOwnNames : List Symbol → Type 0
HaveOwnNames [] = ⊤
HaveOwnNames (s ∷ symbols) = (are_named symbols s.name ≡ false) × HaveOwnNames symbols

-- the symbols that some fragments import from a library
unfoldable pub library_symbols : List Loaded → List ℕ → List Symbol
library_symbols loaders library = symbols_of (all_imports loaders library)
