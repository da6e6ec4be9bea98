pub mod CommandLemmas
pub mod FileLemmas
mod InspectLemmas
pub mod LineLemmas
pub mod LoadLemmas
pub mod NameLemmas
mod OperandLemmas
pub mod PlainLemmas
mod PrepareLemmas
mod RequestLemmas
mod StubsLemmas
