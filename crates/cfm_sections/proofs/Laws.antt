-- Facts of sections, as `specs/` defines them, for the proofs of other crates.

-- there are as many extents as sections from a number on
pub use Rattle.cfm_sections.proofs.PlaceLemmas.{length-extents}
-- the sections of a container that were placed have as many places as are instantiated, each of the size of its section
pub use Rattle.cfm_sections.proofs.PlaceLemmas.{length-fragment, size-fragment}
-- extents of which one has no place lack places, and it has none in memory with other bytes either
pub use Rattle.cfm_sections.proofs.PlaceLemmas.{lacks-moved, lacks-one}
-- if no relocation header is refused, the first refusal is none
pub use Rattle.cfm_sections.proofs.HeaderLemmas.{headers-unrefused}
