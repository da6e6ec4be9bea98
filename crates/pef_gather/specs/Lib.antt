pub mod Gathered
pub mod Names
pub mod Seen
pub mod Stores
