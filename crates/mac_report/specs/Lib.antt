pub mod Containers
pub mod Parts
pub mod Quiet
pub mod Reports
pub mod Views
