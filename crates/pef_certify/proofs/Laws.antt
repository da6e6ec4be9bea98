-- Facts of the certificates of scripts, for the proofs of other crates.

-- certificates of the sections of a script can be printed
pub use Rattle.pef_certify.proofs.PrintLemmas.{script_print}
