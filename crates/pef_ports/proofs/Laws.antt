-- Facts of the definitions, for the proofs of other crates.
pub mod Sending
