-- The exports of a closure's fragments by their names, as far as they were asked for.
use Rattle.std.specs.Prelude.{◌≡◌, ℕ, List, length, slice_index_or, Option, None, Some}
use Rattle.cfm_store.specs.Exported.{NamedTable}
use Rattle.cfm_store.specs.Stores.{Pair}
use Rattle.cfm_closure.specs.Fragments.{loader_at}
use Rattle.cfm_closure.specs.Orders.{IsComplete}
use Rattle.cfm_closure.specs.declared.export_names.ExportNames.{ExportNames}

-- the loader section in a place is that of the fragment there
pub record AreNames (pairs : List Pair) (order : List ℕ) (names : List (Option NamedTable)) : Type 0 where
  pub complete : IsComplete pairs order
  pub size : length names ≡ length pairs
  pub read : (p : ℕ) (t : NamedTable) → slice_index_or names p None ≡ Some t → loader_at pairs p ≡ Some t.loader

abbrev pub AreNamesOf : List Pair → List ℕ → ExportNames → Type 0
AreNamesOf pairs order n = AreNames pairs order n.tables
