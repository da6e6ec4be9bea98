-- What `pef_distances` returns and writes. 99 means that an allocation failed, and 200 that the buffer is too small.
use Rattle.std.specs.Prelude.{◌≡◌, ◌==◌, ℕ, List, Ok, MatchBool}
use Rattle.pef_c.specs.Scripts.Link.{LinkRefuses}
use Rattle.pef_cert.specs.Certified.{Certified}
use Rattle.pef_cert.specs.Text.Printed.{certificates_text}
use Rattle.pef_records.specs.Buffers.{Fills, IsTooLong}
use Rattle.pef_script.specs.Script.{DescribedScript}
use Rattle.pef_script.specs.Text.Grammar.{script_of}
use Rattle.pef_write.specs.Linked.{AreLinkCertificates}

-- the text is a script, and these are certificates that the linker may give for it
abbrev pub AreCertificatesOf : List ℕ → List Certified → Type 0
AreCertificatesOf text certificates = (script : DescribedScript) × (script_of text ≡ Ok script) × AreLinkCertificates script certificates

-- 0, and what `pef distances` prints of them is in the buffer; or 200, if it is longer; or a refusal of `pef_link`, and the buffer
-- and the length are unchanged
abbrev pub DistancesAnswers : List ℕ → List ℕ → List ℕ → ℕ → ℕ → ℕ → ℕ → Type 0
DistancesAnswers text old new before after line answer =
    MatchBool (answer == 0) ((c : List Certified) × AreCertificatesOf text c × Fills (certificates_text c) old new after × (line ≡ 0))
    (MatchBool (answer == 200) ((c : List Certified) × AreCertificatesOf text c × IsTooLong (certificates_text c) old new after × (line ≡ 0))
    ((new ≡ old) × (after ≡ before) × LinkRefuses text line answer))
