pub mod Distances
pub mod Link
pub mod Place
