pub mod Candidates
pub mod Choices
pub mod Extracted
pub mod Faults
pub mod Fragments
pub mod Kept
pub mod Views
