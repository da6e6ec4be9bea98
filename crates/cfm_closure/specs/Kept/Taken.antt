-- The state while fragments are taken for initialization.
use Rattle.std.specs.Prelude.{◌≡◌, ℕ, ◌<◌, List, [], length, replicate, slice_index_or, false, None}
use Rattle.cfm_store.specs.Stores.{Pair}
use Rattle.cfm_closure.specs.Orders.{IsComplete}
use Rattle.cfm_closure.specs.Walk.{Walked}
use Rattle.cfm_closure.specs.declared.init_order.InitState.{InitState}
use Rattle.cfm_closure.specs.Initialization.{awaits}

abbrev pub taken_of : InitState → Walked
taken_of t = record { marked = t.taken.items; order = t.order.items }

-- no fragment was taken
pub record IsFresh (t : InitState) (len : ℕ) : Type 0 where
  pub taken : t.taken.items ≡ replicate len false
  pub passed : t.passed.items ≡ replicate len 0
  pub order : t.order.items ≡ []

-- library entries that were passed wait for nothing
pub record IsInitState (pairs : List Pair) (order : List ℕ) (t : InitState) : Type 0 where
  pub complete : IsComplete pairs order
  pub taken_size : length t.taken.items ≡ length pairs
  pub passed_size : length t.passed.items ≡ length pairs
  pub passed : (p l : ℕ) → l < slice_index_or t.passed.items p 0 → awaits pairs (taken_of t) p l ≡ None
