-- The judgment of a script and certificates, for any texts that they were read from.
use Rattle.std.specs.Prelude.{◌≡◌, ℕ, ◌==◌, Bool, true, false, List, [], ◌∷◌, ◌++◌, Option, None, Result, Ok, drop, length, option_map, slice_get, if◌then◌else◌}
use Rattle.pef_cert.specs.Certified.{Certified}
use Rattle.pef_reloc.specs.declared.fixup.Fixup.{Fixup}
use Rattle.pef_script.specs.Text.Grammar.{script_of}
use Rattle.pef_script.specs.Script.{DescribedScript, DescribedSection}
use Rattle.pef_faults.specs.declared.fault.Fault.{Fault}
use Rattle.pef_tool.specs.Check.{AreVerdicts, HasChecked, Judges, Texts, are_numbered, match_sections}
use Rattle.pef_tool.specs.declared.check.Judging.{Judging}
use Rattle.pef_tool.specs.declared.check.Verdict.{Verdict}

-- the judgment of a script and a text of certificates
abbrev pub JudgesScript : DescribedScript → List ℕ → Result (List Verdict) Fault → Type 0
JudgesScript script certificates judged = (text : List ℕ) → script_of text ≡ Ok script → Judges (record { script = text; certificates = certificates }) judged

-- the judgment of a script and certificates
abbrev pub JudgesRead : DescribedScript → List Certified → Result (List Verdict) Fault → Type 0
JudgesRead script certificates judged = (texts : Texts) → HasChecked texts (record { script = script; certificates = certificates }) → Judges texts judged

-- certificates that are judged one after the other

-- the fixups of section k, if a certificate is for it
abbrev pub next_fixups : List DescribedSection → ℕ → Certified → Option (List Fixup)
next_fixups sections k c = if c.section == k then option_map (λ s. s.fixups) (slice_get sections k) else None

-- verdicts on certificates for the first sections of a script: with those on others they are the verdicts on all
pub record AreFirst (sections : List DescribedSection) (certificates : List Certified) (verdicts : List Verdict) : Type 0 where
  pub count : length verdicts ≡ length certificates
  pub numbered : (others : List Certified) → are_numbered 0 (certificates ++ others) ≡ are_numbered (length certificates) others
  pub judged : (others : List Certified) (rest : List Verdict) → AreVerdicts (drop (length certificates) sections) others rest → AreVerdicts sections (certificates ++ others) (verdicts ++ rest)

-- these are the verdicts on some certificates, or they are for other sections than the first ones, whatever follows
abbrev pub AreJudged : DescribedScript → List Certified → Bool → List Verdict → Type 0
AreJudged script certificates false verdicts = AreFirst script.sections certificates verdicts
AreJudged script certificates true verdicts = (others : List Certified) → match_sections script (certificates ++ others) ≡ false

-- what is known after some certificates
abbrev pub HasJudged : DescribedScript → List Certified → Judging → Type 0
HasJudged script certificates judging = AreJudged script certificates judging.differ judging.verdicts.items

-- and after one more
abbrev pub JudgesNext : DescribedScript → Certified → Judging → Judging → Type 0
JudgesNext script c old new = (before : List Certified) → HasJudged script before old → HasJudged script (before ++ c ∷ []) new

-- the judgment after the last one
abbrev pub JudgesAll : DescribedScript → Judging → Result (List Verdict) Fault → Type 0
JudgesAll script judging judged = (certificates : List Certified) → HasJudged script certificates judging → JudgesRead script certificates judged
