pub mod Paths
pub mod Sections
pub mod Writing
