-- Facts of stores, as `specs/` defines them, for the proofs of other crates.

-- a name has the place of a pair of the store, which has that name and is the first with it
pub use Rattle.cfm_store.proofs.PlaceLemmas.{place_of-below, place_of-first, place_of-named}
-- where places are counted from a number on, that place isn't before it
pub use Rattle.cfm_store.proofs.PlaceLemmas.{place_from-inside}
-- if there are no names, a table without names has their places
pub use Rattle.cfm_store.proofs.PlaceLemmas.{ArePlaces-nil}
-- a free place for a new pair; no pair is shown there
pub use Rattle.cfm_store.proofs.PlaceLemmas.{IsFreeFor, free-shown}
-- the place for a new pair is such a place, or it is the end
pub use Rattle.cfm_store.proofs.ChangeLemmas.{free-place, new-end}
-- if one place changes, the others keep their pairs
pub use Rattle.cfm_store.proofs.ChangeLemmas.{pair_of-with, set-pair}
-- with a new pair at the end or in a free place, the names stay in their places, with their pairs
pub use Rattle.cfm_store.proofs.ChangeLemmas.{placed-kept, placed-longer, placed-place}
-- .. so they do if it is put into the place for it
pub use Rattle.cfm_store.proofs.ChangeLemmas.{new-longer, place_of-new}
-- .. and so do the other names if a pair is removed
pub use Rattle.cfm_store.proofs.ChangeLemmas.{removed-kept, removed-longer, removed-place}
