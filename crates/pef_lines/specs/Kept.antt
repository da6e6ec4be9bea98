-- Definitions for the crate's own proofs and private contracts. No other crate uses them.
pub mod Numbers
pub mod Pairs
pub mod Words
