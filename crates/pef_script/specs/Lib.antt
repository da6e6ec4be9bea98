pub mod Described
pub mod Limits
pub mod Parts
pub mod Script
pub mod Views
pub mod WellFormed
pub mod Text
