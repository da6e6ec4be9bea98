-- Facts of contexts, as `specs/` defines them, for the proofs of other crates.

-- a fragment that is present is prepared with the present addresses; so is each of a closure that was
-- prepared
pub use Rattle.cfm_prepare.proofs.NowLemmas.{run-now, run-prepares}
-- fragments after others; a closing keeps those that are needed; a fragment that stays present keeps its places
pub use Rattle.cfm_prepare.proofs.SlotLemmas.{places-append, present-append}
pub use Rattle.cfm_prepare.proofs.RunLemmas.{present-needed}
pub use Rattle.cfm_prepare.proofs.KeepLemmas.{run-keeps}
-- a fragment that is present is in the store, and needs the same memory after a step
pub use Rattle.cfm_prepare.proofs.RunLemmas.{run-inside}
pub use Rattle.cfm_prepare.proofs.NowLemmas.{step-extents}
-- the closures of open connections are those of their roots
pub use Rattle.cfm_prepare.proofs.RunLemmas.{run-closed}
-- a connection that was opened is found by its number
pub use Rattle.cfm_prepare.proofs.GoneLemmas.{run-opened}
-- a fragment has one closure
pub use Rattle.cfm_prepare.proofs.OpenLemmas.{same-closed}
-- a list has a number, or contains it
pub use Rattle.cfm_prepare.proofs.ListLemmas.{has-at, has-contains}
-- fragments that take no more than is allowed don't take more
pub use Rattle.cfm_prepare.proofs.BoundLemmas.{not-past}
-- there is a state that a preparation gives, if no new fragment lacks a place or is refused
pub use Rattle.cfm_prepare.proofs.EnoughLemmas.{prepares-to}
-- fragments that lack a place for a section lack places
pub use Rattle.cfm_prepare.proofs.PlacingLemmas.{lacks-room}
-- a fragment that was placed has a place for each instantiated section of its container, as its loader section knows
-- their number
pub use Rattle.cfm_prepare.proofs.FragmentLemmas.{container-of, length-there}
-- there is an address for each import
pub use Rattle.cfm_prepare.proofs.FragmentLemmas.{length-addresses}
-- if some fragments are refused for an image or a relocation header, one with the reported name is
pub use Rattle.cfm_prepare.proofs.BadLemmas.{HasRefusedHeader, HasRefusedImage, bad-image, bad-program}
-- the new fragments of a closure are of it
pub use Rattle.cfm_prepare.proofs.BegunLemmas.{new-members}
