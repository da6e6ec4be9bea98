-- Definitions for private contracts and proofs. No public clause cites them.
pub mod Places
pub mod Tables
