pub mod Names
pub mod Handles
pub mod Containers
pub mod Reports
pub mod Files
pub mod Contexts
pub mod Scripts
