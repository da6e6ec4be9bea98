pub mod Laws
mod Described
mod TextProofs
