pub mod Exact
pub mod Faults
pub mod Kept
pub mod Planned
pub mod Reached
pub mod Runs
pub mod Windows
