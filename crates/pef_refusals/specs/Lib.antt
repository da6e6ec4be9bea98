pub mod Names
pub mod Help
