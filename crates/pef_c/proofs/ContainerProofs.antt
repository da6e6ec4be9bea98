pub mod KeptLemmas
pub mod WrittenLemmas
