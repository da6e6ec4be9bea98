pub mod Begun
pub mod Images
pub mod Kept
pub mod Prepared
pub mod Rules
pub mod Unplaced
