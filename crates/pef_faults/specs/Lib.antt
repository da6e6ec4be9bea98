pub mod Faults
-- Definitions for private contracts.
pub mod Kept
pub mod Names
pub mod Notes
pub mod Numbers
pub mod Places
