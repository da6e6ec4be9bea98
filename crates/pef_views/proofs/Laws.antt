-- Facts of containers, as `specs/` defines them, for the proofs of other crates.

-- no more sections are instantiated than there are
pub use Rattle.pef_views.proofs.Containers.{counts}
-- the header of each section is there, with as many raw bytes as it says; an instantiated section is one that can be
pub use Rattle.pef_views.proofs.Containers.{instantiable, raw_whole, section_header_is}
-- bytes that were written by the grammar are read as that container
pub use Rattle.pef_views.proofs.Written.{IsWritten, container_of-written}
-- for a written header, and for a written section, no test holds
pub use Rattle.pef_views.proofs.Written.{header_tests-unmet, section_tests-unmet}
-- the first of all faults is the one that is reported alone, and what can be read of a container is the container
pub use Rattle.pef_views.proofs.FindingLemmas.{first_is_reported, unrefused_container, whole_container}
-- with a loader section that isn't instantiated, rows of it may name the instantiated sections
pub use Rattle.pef_views.proofs.FindingLemmas.{sections-in-order}
-- the own bytes of a container are the same container
pub use Rattle.pef_views.proofs.ExtentLemmas.{kept_whole}
-- the greatest of some numbers, found one after the other
pub use Rattle.pef_views.proofs.ExtentLemmas.{greatest-end, greatest-next}
