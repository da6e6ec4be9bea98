-- Facts of its definitions, and general facts of tests, numbers and lists, for the proofs of other
-- crates.
pub mod Findings
pub mod Images
pub mod Lists
pub mod Names
pub mod Numbers
pub mod Refusals
pub mod Tests
