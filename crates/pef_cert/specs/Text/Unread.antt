-- Certificates that are read one after the other: what is left of a text after some of them, and what each step says.
use Rattle.std.specs.Prelude.{◌≡◌, ℕ, ◌+◌, List, [], ◌∷◌, ◌++◌, Option, None, Some, Result, Ok, Err, length}
use Rattle.pef_words.specs.Refusals.{result_map}
use Rattle.pef_cert.specs.Certified.{Certified}
use Rattle.pef_cert.specs.declared.text.fault.CertFault.{CertFault}
use Rattle.pef_cert.specs.declared.text.fields.Version.{Version}
use Rattle.pef_cert.specs.declared.text.reader.CertificateReader.{CertificateReader}
use Rattle.pef_cert.specs.Text.Grammar.{Left, certificates_read}
use Rattle.pef_cert.specs.Text.Views.{FailsAs}

-- the certificates of the rest of a text, or the number of the line that is refused. There are fewer certificates than
-- this bound
unfoldable pub certificates_in : Version → Left → Result (List Certified) ℕ
certificates_in version left = certificates_read version (length left.text + 1) [] left

-- what a reader has not read yet
abbrev pub unread : CertificateReader → Left
unread reader = record { number = reader.lines.number; text = reader.lines.rest.now }

-- the certificates that it has not read yet, or the number of the line that is refused
abbrev pub certificates_left : CertificateReader → Result (List Certified) ℕ
certificates_left reader = certificates_in reader.version (unread reader)

-- certificates in front of those that are left
abbrev pub in_front : List Certified → Result (List Certified) ℕ → Result (List Certified) ℕ
in_front certificates left = result_map (λ others. certificates ++ others) left

-- a new reader has all of them left, or they are refused
abbrev pub BeginsAs : Result CertificateReader CertFault → Result (List Certified) ℕ → Type 0
BeginsAs (Ok reader) wanted = wanted ≡ certificates_left reader
BeginsAs (Err fault) wanted = FailsAs fault wanted

-- what the next step says of what was left and of what is left now: the first certificate was taken, or there was none,
-- or a line is refused. A reader that takes none stays as it was
abbrev pub TakesNext : Result (Option Certified) CertFault → Result (List Certified) ℕ → Result (List Certified) ℕ → Type 0
TakesNext (Ok (Some c)) old new = old ≡ in_front (c ∷ []) new
TakesNext (Ok None) old new = (old ≡ Ok []) × (new ≡ old)
TakesNext (Err fault) old new = FailsAs fault old × (new ≡ old)
