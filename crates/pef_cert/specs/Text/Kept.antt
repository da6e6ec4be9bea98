-- Definitions that only the code and its private contracts cite. They are no part of the crate's contracts.
pub mod Reading
pub mod Heads
