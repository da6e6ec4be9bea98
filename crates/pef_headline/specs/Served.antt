-- What an import of a connection's fragment means, by its name (docs/RULES.md; Mac OS Runtime Architectures, "Code Fragment
-- Manager", "Resolving Imports"). The words are those of the calls' own clauses: what `import_target`, `fragment_symbol` and
-- `symbol` return.
use Rattle.std.specs.Prelude.{◌≡◌, ℕ, true, List, Option, None, Some, Ok, Contains, option_map}
use Rattle.std.specs.Option.{option_and_then}
use Rattle.std.specs.Result.{result_unwrap_or}
use Rattle.cfm_store.specs.Stores.{Pair}
use Rattle.cfm_closure.specs.Fragments.{loader_at}
use Rattle.cfm_closure.specs.Libraries.{bound_to}
use Rattle.cfm_closure.specs.Targets.{target_of}
use Rattle.cfm_closure.specs.declared.targets.Target.{Target}
use Rattle.cfm_closure.specs.declared.targets.Target.TheVariants.{At}
use Rattle.cfm_closure.specs.declared.targets.Target.TheVariants as target
use Rattle.cfm_prepare.specs.Addresses.{target_address}
use Rattle.cfm_prepare.specs.Contexts.{ContextState, Open, open_of}
use Rattle.cfm_prepare.specs.Fragments.{Present}
use Rattle.cfm_prepare.specs.Readers.{symbol_of}
use Rattle.cfm_prepare.specs.declared.imports.ImportTarget.{ImportTarget}
use Rattle.pef_format.specs.Exports.{value_of}
use Rattle.pef_format.specs.Symbols.{Import}
use Rattle.pef_format.specs.declared.export.ExportValue.{ExportValue}
use Rattle.pef_format.specs.declared.export.ExportValue.TheVariants.{Absolute, InSection, Reexport}
use Rattle.pef_loader.specs.Loader.{export_of, named_of}
use Rattle.pef_headline.specs.Headline.{IsReached}

-- an open connection in a state that is reached
pub record IsOpen (s : ContextState) (o : Open) : Type 0 where
  pub reached : IsReached s
  pub number : ℕ
  pub is : open_of s.connections number ≡ Some o

abbrev pub no_target : ImportTarget
no_target = record { target = None; address = 0 }

-- where an export of a fragment leads: to a place, an absolute number, or where the import leads that it passes on
abbrev pub exported_target : List Pair → ℕ → ExportValue → Option Target
exported_target pairs q (InSection section offset) = Some (At q section offset)
exported_target pairs q (Absolute number) = Some (target.Absolute number)
exported_target pairs q (Reexport import) = result_unwrap_or (target_of pairs q import) None

-- where a fragment's first export with a name leads; none if it has no such export
abbrev pub named_target : List Pair → ℕ → List ℕ → Option (Option Target)
named_target pairs q name =
    option_map (λ x. exported_target pairs q (value_of x.fields.section x.fields.value))
    (option_and_then (λ l. option_and_then (export_of l) (named_of l name)) (loader_at pairs q))

-- an import means where such an export leads, and its address. If there is no such export, it is weak and has no target
abbrev pub LeadsWhere : List Present → Import → Option (Option Target) → ImportTarget → Type 0
LeadsWhere all import None meant = (import.fields.weak ≡ true) × (meant ≡ no_target)
LeadsWhere all import (Some t) meant = meant ≡ record { target = t; address = target_address all t }

-- an import has the address that a symbol has. If there is no such symbol, it is weak and has no target
abbrev pub HasAddressOf : Import → Option ℕ → ImportTarget → Type 0
HasAddressOf import None meant = (import.fields.weak ≡ true) × (meant ≡ no_target)
HasAddressOf import (Some address) meant = meant.address ≡ address

-- an import means the export of a fragment with the import's name. That may be an export that passes on an import of its own
pub record MeansExport (s : ContextState) (o : Open) (q : ℕ) (import : Import) (meant : ImportTarget) : Type 0 where
  pub inside : Contains o.closed.order q
  pub target : LeadsWhere s.present import (named_target s.pairs q import.name) meant
  pub address : HasAddressOf import (symbol_of s.present o q import.name) meant

-- an import has no target if its library is absent. Otherwise the library is a fragment of the same closure, and the import
-- means the export of this fragment with the import's name
abbrev pub IsServed : ContextState → Open → Import → ImportTarget → Option ℕ → Type 0
IsServed s o import meant None = meant ≡ no_target
IsServed s o import meant (Some q) = MeansExport s o q import meant

-- what `import_target` returned for this import of the fragment in place p, by the library that the import's entry means
pub record MeansSymbol (s : ContextState) (o : Open) (p : ℕ) (import : Import) (meant : ImportTarget) : Type 0 where
  pub library : Option ℕ
  pub bound : bound_to s.pairs p import.library ≡ Ok library
  pub served : IsServed s o import meant library
