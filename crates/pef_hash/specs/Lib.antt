pub mod Build
pub mod Exports
pub mod Faults
pub mod Kept
pub mod Limits
pub mod Regular
pub mod Views
pub mod Word
