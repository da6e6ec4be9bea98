mod ChangeLemmas
mod GrowLemmas
mod IndexLemmas
pub mod Laws
mod NameLemmas
mod NumberLemmas
mod PlaceLemmas
mod SliceLemmas
