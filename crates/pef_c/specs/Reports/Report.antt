-- What the calls that open a report return.
use Rattle.std.specs.Prelude.{◌≡◌, ◌==◌, ℕ, List, Option, None, Some, MatchBool}
use Rattle.mac_report.specs.Reports.{IsReport}
use Rattle.mac_rows.specs.declared.output_format.OutputFormat.TheVariants.{Json}
use Rattle.pef_report.specs.Inspection.{Inspected, Inspects, inspection_object}
use Rattle.pef_rows.specs.declared.frames.Counts.{Counts}

-- 0, and a text is still to be read; or 99, and it isn't open
abbrev pub KeepAnswers : List ℕ → Option (List ℕ) → ℕ → Type 0
KeepAnswers text new answer = MatchBool (answer == 0) (new ≡ Some text) ((answer ≡ 99) × (new ≡ None))

-- 0, and what `pef inspect --json` prints of a file is still to be read; or 99, and the report isn't open
abbrev pub OpenReportAnswers : List ℕ → List ℕ → Option (List ℕ) → ℕ → Type 0
OpenReportAnswers path file new answer =
    MatchBool (answer == 0) ((text : List ℕ) × (counts : Counts) × IsReport Json path file None text counts × (new ≡ Some text))
    ((answer ≡ 99) × (new ≡ None))

-- 0, and the object of some bytes as a container is still to be read; or 99, and the report isn't open
abbrev pub OpenContainerAnswers : List ℕ → Option (List ℕ) → ℕ → Type 0
OpenContainerAnswers bytes new answer =
    MatchBool (answer == 0) ((i : Inspected) × Inspects 0 bytes i × (new ≡ Some (inspection_object i)))
    ((answer ≡ 99) × (new ≡ None))
