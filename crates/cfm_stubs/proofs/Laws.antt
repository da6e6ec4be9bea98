-- Facts of stores with stubs, as `specs/` defines them, for the proofs of other crates.

-- a store with the stubs of what it lacks is one with stubs, with the numbers of their exports
pub use Rattle.cfm_stubs.proofs.AddedLemmas.{added-stubbed, stub-read}
-- what a preparation in such a store ends with, and what an import from a stub means
pub use Rattle.cfm_stubs.proofs.PreparationLemmas.{preparation-ends}
pub use Rattle.cfm_stubs.proofs.StubbedLemmas.{target-number}
