-- Definitions for private contracts and proofs. No public clause cites them.
pub mod Unplaced
