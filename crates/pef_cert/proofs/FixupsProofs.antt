pub mod FixupLemmas
pub mod WalkLemmas
