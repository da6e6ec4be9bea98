pub mod Faults
pub mod Instructions
pub mod Left
pub mod Listed
pub mod Listing
pub mod Views
