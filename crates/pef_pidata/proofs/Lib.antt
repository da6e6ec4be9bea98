pub mod Laws
mod Arguments
mod Lengths
mod Packings
mod Parts
mod Refusals
mod Repeats
mod Steps
mod Verifying
mod Weaves
