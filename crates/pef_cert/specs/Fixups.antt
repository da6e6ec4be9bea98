pub mod Additions
pub mod Answers
pub mod Kept
