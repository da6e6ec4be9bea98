mod PartLemmas
mod ReaderLemmas
