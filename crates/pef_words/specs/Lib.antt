pub mod Bytes
pub mod Findings
pub mod Refusals
pub mod Results
