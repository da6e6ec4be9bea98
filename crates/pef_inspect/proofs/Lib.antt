mod Apart
mod CompleteLemmas
mod ExtentLemmas
mod FirstLemmas
pub mod Laws
mod NoteLemmas
mod RisingLemmas
mod Seeing
mod Soundness
mod Taking
mod Within
mod ZeroLemmas
