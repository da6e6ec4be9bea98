pub mod Expansions
pub mod Kept
pub mod Views
