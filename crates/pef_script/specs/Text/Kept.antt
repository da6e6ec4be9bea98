-- Definitions that only the code and its private contracts cite. They are no part of the crate's contracts.
pub mod Kinds
pub mod Marks
pub mod Reader
pub mod Sections
pub mod Steps
