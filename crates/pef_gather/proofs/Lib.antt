mod GatherLemmas
mod NameLemmas
