-- Facts of the errors of a container, as `specs/` defines them, for the proofs of other crates.

-- if no error is found, the container is sound
pub use Rattle.pef_inspect.proofs.Soundness.{no_errors_sound, no_errors_within_sound}
-- a sound container has no error
pub use Rattle.pef_inspect.proofs.Soundness.{no_false_alarm}
-- errors and notes are told apart
pub use Rattle.pef_inspect.proofs.Apart.{tells_apart}
-- each rule that is broken has its error
pub use Rattle.pef_inspect.proofs.CompleteLemmas.{finds_each}
