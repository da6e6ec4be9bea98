-- Definitions for private contracts and proofs. No public clause cites them.
pub mod Begun
pub mod Bounds
pub mod Connections
pub mod Contexts
pub mod Ready
pub mod Slots
pub mod Users
