-- Facts of linked containers, as `specs/` defines them, for the proofs of other crates.

-- a linked container is read back: its container and its loader section are the script's
pub use Rattle.pef_write.proofs.LinkedLaws.{is_read_back}
-- each of its sections is relocated by its program
pub use Rattle.pef_write.proofs.LinkedPrograms.{section_programs}
-- a section's program is a least one
pub use Rattle.pef_write.proofs.LeastLemmas.{least_program}
-- for every script there is one
pub use Rattle.pef_write.proofs.LinkExists.{some_link}
-- for a script there is one that `link` gives, and certificates that it may give have the programs of this container
pub use Rattle.pef_write.proofs.OneLink.{one_container, own_certificates}
-- a container of absolute exports is read back
pub use Rattle.pef_write.proofs.NumberedLemmas.{exported}
