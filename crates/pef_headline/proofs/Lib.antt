pub mod Laws
mod ConditionLemmas
mod DescribedLemmas
mod EnoughLemmas
mod HeadlineLemmas
mod ImportLemmas
mod KnownImports
mod LeastLemmas
mod LinkedLemmas
mod NowLemmas
mod PlacedLemmas
mod ProgramLemmas
mod ReaderLemmas
mod ReachedLemmas
mod RefusedLemmas
mod ServedLemmas
