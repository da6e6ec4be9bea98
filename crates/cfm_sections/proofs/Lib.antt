mod HeaderLemmas
mod ImageLemmas
pub mod Laws
mod PlaceLemmas
