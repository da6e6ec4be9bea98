pub mod Forks
pub mod Rows
