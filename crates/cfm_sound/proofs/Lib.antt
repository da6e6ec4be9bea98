mod ConverseLemmas
mod NamedLemmas
mod PreparedLemmas
mod ReadLemmas
mod SoundLemmas
mod StubbedLemmas
mod WrittenLemmas
