pub mod Laws
mod PackedLemmas
mod RowLemmas
