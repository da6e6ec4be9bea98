pub mod Laws
mod CursorLemmas
mod Cuts
mod Digits
mod FirstNumber
mod HeadLemmas
mod Loads
mod LineLemmas
mod PairLemmas
mod WordLemmas
