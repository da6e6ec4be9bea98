-- The numbers and the names of the refusals of certificates (docs/ERRORS.md), which are this project's own.
use Rattle.std.specs.Prelude.{ℕ, Option, None, Some, List, ◌++◌, codes}
use Rattle.std.specs.Fmt.{decimal}
use Rattle.pef_cert.specs.declared.text.fault.CertFault.{CertFault}
use Rattle.pef_cert.specs.declared.text.fault.CertFault.TheVariants.{BadCertificate, OutOfMemory}

abbrev pub fault_number : CertFault → ℕ
fault_number (BadCertificate line) = 51
fault_number OutOfMemory = 99

abbrev pub fault_name : CertFault → List ℕ
fault_name (BadCertificate line) = codes "BadCertificate"
fault_name OutOfMemory = codes "OutOfMemory"

-- the number of the line that was refused
abbrev pub fault_line : CertFault → Option ℕ
fault_line (BadCertificate line) = Some line
fault_line OutOfMemory = None

-- the text: the name, and the line if there is one
abbrev pub fault_text : CertFault → List ℕ
fault_text (BadCertificate line) = codes "BadCertificate" ++ codes " line " ++ decimal line
fault_text OutOfMemory = codes "OutOfMemory"
