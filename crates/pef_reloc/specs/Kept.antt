-- Definitions for proofs and private contracts alone.
pub mod Added
pub mod Additions
pub mod Counts
pub mod Executions
pub mod Machines
pub mod Places
pub mod Readers
pub mod Rows
pub mod Walks
