pub mod Laws
mod PrintLemmas
