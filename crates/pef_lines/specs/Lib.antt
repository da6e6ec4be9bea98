pub mod Cursor
pub mod Kept
pub mod Lines
pub mod Numbers
pub mod Pairs
pub mod Views
pub mod Words
