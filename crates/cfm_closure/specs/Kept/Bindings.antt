-- The tables of a closure order: its fragments and the fragments of their library entries.
use Rattle.std.specs.Prelude.{◌≡◌, ℕ, ◌≤◌, List, length, Option}
use Rattle.std.specs.List.{AllByRecursion}
use Rattle.cfm_store.specs.Stores.{Pair}
use Rattle.cfm_store.specs.Limits.{most_pairs}
use Rattle.cfm_closure.specs.declared.fragment.ClosedFragment.{ClosedFragment}
use Rattle.cfm_closure.specs.Orders.{IsComplete}
use Rattle.cfm_closure.specs.Kept.Paths.{IsWalked}

-- the table of a closure order
pub record AreBindings (pairs : List Pair) (fragments : List (Option ClosedFragment)) (order : List ℕ) : Type 0 where
  pub size : length fragments ≡ length pairs
  pub walked : AllByRecursion (IsWalked pairs fragments) order
  pub complete : IsComplete pairs order
  pub few : length pairs ≤ most_pairs
