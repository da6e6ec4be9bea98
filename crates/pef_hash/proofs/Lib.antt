pub mod Laws
mod FoundLemmas
mod NameLemmas
mod NamedExports
mod Places
mod RegularLemmas
mod SearchLemmas
mod SlotLists
mod Slots
mod Tables
