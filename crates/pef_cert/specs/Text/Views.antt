-- What a result of reading says.
use Rattle.std.specs.Prelude.{◌≡◌, ℕ, Result, Ok, Err}
use Rattle.pef_cert.specs.declared.text.fault.CertFault.{CertFault}
use Rattle.pef_cert.specs.declared.text.fault.CertFault.TheVariants.{BadCertificate, OutOfMemory}

-- a result is the expected one, unless an allocation failed

abbrev pub FailsAs : {A : Type 0} → CertFault → Result A ℕ → Type 0
FailsAs (BadCertificate line) wanted = wanted ≡ Err line
FailsAs OutOfMemory wanted = Unit {0}

abbrev pub ReadsAs : {A : Type 0} → Result A CertFault → Result A ℕ → Type 0
ReadsAs (Ok x) wanted = wanted ≡ Ok x
ReadsAs (Err fault) wanted = FailsAs fault wanted
