-- Definitions for proofs and private contracts.
pub mod Accepted
pub mod Blocks
pub mod Cursors
pub mod Fields
pub mod Marks
pub mod Names
pub mod Ranges
pub mod Tests
