pub mod Named
pub mod Placed
pub mod Stubbed
pub mod Written
