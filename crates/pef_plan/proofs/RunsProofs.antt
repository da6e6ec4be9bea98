pub mod EndBest
pub mod EndLemmas
pub mod EndsKept
pub mod KnownLemmas
pub mod PlaceLemmas
pub mod RunFacts
