pub mod Faults
pub mod Instructions
pub mod Kept
pub mod Packing
pub mod Pattern
pub mod Refused
