mod ChoiceLemmas
mod NamedLemmas
mod PlaceLemmas
mod RankLemmas
