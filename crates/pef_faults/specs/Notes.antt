pub mod Excerpts
pub mod Notes
pub mod Places
pub mod Scripts
