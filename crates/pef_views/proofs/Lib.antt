mod Containers
mod ExtentLemmas
mod FindingLemmas
mod Headers
mod RefusedLemmas
mod Sections
mod Written
pub mod Laws
