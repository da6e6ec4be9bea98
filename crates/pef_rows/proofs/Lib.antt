mod NameLemmas
mod StringLemmas
mod TokenLemmas
mod UnicodeLemmas
