pub mod Kept
pub mod Rising
pub mod Rows
