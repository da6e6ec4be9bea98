pub mod Claims
pub mod Registers
pub mod Sets
pub mod Tests
pub mod Values
