-- Facts of least programs and certificates, for the proofs of other crates.

-- a least program has at most four halfwords for each fixup
pub use Rattle.pef_plan.proofs.Reaching.{least-short}
-- a least program names only what its fixups use
pub use Rattle.pef_plan.proofs.NameFacts.{least-names}
-- there is a valid certificate for fixups that fit, and its labels are least lengths
pub use Rattle.pef_plan.proofs.Existence.{some_certificate}
-- also for each least program
pub use Rattle.pef_plan.proofs.Existence.{program_certificate}
-- there is one planned program for some fixups, and it is least
pub use Rattle.pef_plan.proofs.PlannedLemmas.{one_planned, planned_least}
