-- Facts of inspections, as `specs/` defines them, for the proofs of other crates.

-- an inspection without errors, in which nothing is left unverified, is that of a sound container
pub use Rattle.pef_report.proofs.Judging.{judges_right}
