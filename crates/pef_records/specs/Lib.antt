pub mod Buffers
pub mod Places
pub mod Containers
pub mod Files
