pub mod Encoded
pub mod Fits
pub mod Pieces
pub mod Tables
pub mod Views
