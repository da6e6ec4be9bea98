pub mod Faults
pub mod Fork
pub mod References
pub mod Resources
pub mod Views
