mod InPlace
mod Judging
pub mod Laws
mod Merging
mod Rising
mod StateLemmas
