-- Definitions for proofs and private contracts alone.
pub mod Chains
pub mod Ends
pub mod Searches
