pub mod Chunks
pub mod Plain
