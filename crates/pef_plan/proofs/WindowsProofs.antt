pub mod CloseLemmas
pub mod TableLemmas
pub mod WindowLemmas
