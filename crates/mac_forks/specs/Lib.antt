pub mod Apple
pub mod Crc
pub mod Faults
pub mod MacBinary
pub mod MacFile
pub mod Parts
pub mod Views
