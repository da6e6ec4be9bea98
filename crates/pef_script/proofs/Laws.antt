-- Facts of scripts, as `specs/` defines them, for the proofs of other crates.

-- a base of a script exists if its sections and its imports have addresses
pub use Rattle.pef_script.proofs.Described.{base_there}
