mod Changes
mod Contents
mod Entries
mod Filled
mod Found
mod Fronts
mod GivenBack
mod InTurn
mod Placed
mod Placing
mod Ranges
mod Remembered
mod Reserving
mod Rooms
mod Shapes
pub mod Laws
