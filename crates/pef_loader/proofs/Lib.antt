mod BlockLemmas
mod CutLemmas
mod FindingLemmas
pub mod Laws
mod Loaders
mod MarkLemmas
mod NameEnds
mod PaintLemmas
mod RangeLemmas
mod RefusedLemmas
