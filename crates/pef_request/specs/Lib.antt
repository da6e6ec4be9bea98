pub mod Arguments
pub mod CommandLine
pub mod Files
pub mod Kept
pub mod Plain
pub mod Prepare
pub mod Requests
pub mod Stubs
