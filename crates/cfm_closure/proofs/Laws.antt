-- Facts of closures, as `specs/` defines them, for the proofs of other crates.

-- a closure is one of its store; its order has each fragment once, with all its libraries, and its root last
pub use Rattle.cfm_closure.proofs.ClosedLemmas.{closed-complete, closed-root, closed-store}
-- each fragment of the order is the root, or the first with its name
pub use Rattle.cfm_closure.proofs.MetLemmas.{closed-met}
-- its initialization order has the same fragments
pub use Rattle.cfm_closure.proofs.InitOrderLemmas.{closed-init}
-- each import of a closure's fragments has a target, or none
pub use Rattle.cfm_closure.proofs.ClosedLemmas.{closed-target}
-- a target that is a place is in an instantiated section of a fragment of the closure
pub use Rattle.cfm_closure.proofs.TargetLemmas.{target-inside}
-- if a closure is refused for a fragment's bytes, one of the store isn't read, and the refusal names it
pub use Rattle.cfm_closure.proofs.ReadLemmas.{closed-no_container, closed-no_loader}
-- so if all fragments of a store are read, no closure is refused for a fragment's bytes
pub use Rattle.cfm_closure.proofs.ReadLemmas.{closed-refused}
-- the order of a closure is the one that the walk from its root gives
pub use Rattle.cfm_closure.proofs.ClosedLemmas.{closed-order}
-- a closure is refused as a loop of re-exports exactly if an import of its order visits an export again, before which
-- no import is refused
pub use Rattle.cfm_closure.proofs.EndlessLemmas.{closed-endless}
-- a pair that is put into the place for it, or removed, leaves the closures that may stay and their targets as they are, since
-- their fragments and bindings stay the same
pub use Rattle.cfm_closure.proofs.SameLemmas.{AreSame, SameAt, fragment_of-same}
pub use Rattle.cfm_closure.proofs.SameClosedLemmas.{closed-same, target-same}
pub use Rattle.cfm_closure.proofs.StoreLemmas.{new-same, removed-same}
