-- The fragments before this one have no such entry.
use Rattle.std.proofs.Common.{◌≡◌, ◌≢◌, ◌<◌, ℕ, Some, slice_index_or}
use Rattle.std.specs.Option.{option_and_then}
use Rattle.pef_loader.specs.Library.{Library}
use Rattle.pef_loader.specs.Loader.{library_of}
use Rattle.cfm_closure.specs.Fragments.{loader_at}
use Rattle.cfm_closure.proofs.closures.Closure.names_library.Given as goal

abbrev pub invariant-loop-p : goal.invariant-loop-p
invariant-loop-p l = (i : ℕ) → i < l.p-index → (k : ℕ) (library : Library) → option_and_then (λ x. library_of x k) (loader_at l.self.pairs (slice_index_or l.p-items i 0)) ≡ Some library → library.name ≢ l.name
