-- What this crate offers to the proofs of others: facts of loader sections, as `specs/` defines them.

-- bytes whose parts are there, of which no test is met, are that loader section
pub use Rattle.pef_loader.proofs.Loaders.{accepts}
-- what some bytes are read as is a loader section of these bytes, with so many instantiated sections
pub use Rattle.pef_loader.proofs.Loaders.{loaded_of-ok}
-- what is found by a name is an export of that name
pub use Rattle.pef_loader.proofs.Loaders.{named_there}
-- what is found by its name is one of the exports
pub use Rattle.pef_loader.proofs.Loaders.{named_is}
-- the first of all faults is the one that is reported alone, and what can be read of a loader section is the loader section
pub use Rattle.pef_loader.proofs.FindingLemmas.{first_is_reported, unrefused_loader, whole_loader}
-- a relocation header is the same, whether it is read of a whole loader section or of one that may be damaged
pub use Rattle.pef_loader.proofs.FindingLemmas.{reloc_row}
-- each relocation header is one of an instantiated section
pub use Rattle.pef_loader.proofs.Loaders.{reloc_section}
