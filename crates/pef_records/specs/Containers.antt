pub mod Container
pub mod Fixups
pub mod Loaders
pub mod Partial
pub mod Rows
