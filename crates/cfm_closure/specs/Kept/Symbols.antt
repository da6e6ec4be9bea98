-- The imports of a closure's fragments, as far as they were read.
use Rattle.std.specs.Prelude.{◌≡◌, ℕ, List, length, slice_index_or, Option, None, Some}
use Rattle.std.specs.Option.{option_and_then}
use Rattle.pef_loader.specs.Loader.{Loaded}
use Rattle.cfm_store.specs.Stores.{Pair}
use Rattle.cfm_closure.specs.Fragments.{loader_at}
use Rattle.cfm_closure.specs.Orders.{IsComplete}
use Rattle.cfm_closure.specs.declared.symbols.Symbols.{Symbols}

-- the loader section whose imports are in a place
abbrev pub table_at : List (Option (Option Loaded)) → ℕ → Option Loaded
table_at tables p = option_and_then (λ table. table) (slice_index_or tables p None)

-- the table in a place is that of the fragment there
pub record AreTables (pairs : List Pair) (order : List ℕ) (tables : List (Option (Option Loaded))) : Type 0 where
  pub complete : IsComplete pairs order
  pub size : length tables ≡ length pairs
  pub read : (p : ℕ) (l : Loaded) → table_at tables p ≡ Some l → loader_at pairs p ≡ Some l

abbrev pub AreSymbolsOf : List Pair → List ℕ → Symbols → Type 0
AreSymbolsOf pairs order s = AreTables pairs order s.tables
