-- Definitions for proofs and private contracts alone.
pub mod NameKeys
