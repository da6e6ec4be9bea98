pub mod Headline
pub mod Imports
pub mod Least
pub mod Memory
pub mod Now
pub mod Others
pub mod Placed
pub mod Served
