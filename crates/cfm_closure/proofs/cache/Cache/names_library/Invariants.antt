-- The fragments before this one have no such entry.
use Rattle.std.proofs.Common.{◌≡◌, ◌≢◌, ◌<◌, ℕ, List, Some, None, slice_index_or}
use Rattle.std.specs.Prelude.{IsSome}
use Rattle.std.specs.Option.{option_and_then}
use Rattle.pef_loader.specs.Library.{Library}
use Rattle.pef_loader.specs.Loader.{library_of}
use Rattle.cfm_closure.specs.Fragments.{loader_at}
use Rattle.cfm_closure.specs.Kept.Views.{AreRead}
use Rattle.cfm_store.specs.Stores.{Pair}
use Rattle.cfm_closure.proofs.cache.Cache.names_library.Given as goal

abbrev pub invariant-loop-p : goal.invariant-loop-p
invariant-loop-p l = (pairs : List Pair) → AreRead pairs l.self.views → (k : ℕ) → k < l.p → IsSome (slice_index_or l.self.rows k None)
    → (i : ℕ) (library : Library) → option_and_then (λ x. library_of x i) (loader_at pairs k) ≡ Some library → library.name ≢ l.name
