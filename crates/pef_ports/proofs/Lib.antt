mod DigitLemmas
mod InputLemmas
pub mod Laws
mod NameLemmas
mod PieceLemmas
mod TextLemmas
