pub mod Sections
pub mod Symbols
pub mod Exports
pub mod Entries
pub mod Places
pub mod Rows
