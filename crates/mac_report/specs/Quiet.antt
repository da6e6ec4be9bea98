-- What a report without errors says of the containers of a file.
use Rattle.std.specs.Prelude.{◌≡◌, ℕ, true, false, List, [], ◌∷◌, Option}
use Rattle.std.specs.List.{AllByRecursion}
use Rattle.cfm_members.specs.Search.{containers_in}
use Rattle.pef_inspect.specs.Findings.{is_unverified}
use Rattle.pef_inspect.specs.Sound.{IsSound}
use Rattle.pef_report.specs.Inspection.{count_chosen}
use Rattle.pef_rows.specs.declared.frames.Counts.{Counts}
use Rattle.mac_rows.specs.DataFiles.{DataFileIs}
use Rattle.mac_rows.specs.declared.output_format.OutputFormat.{OutputFormat}
use Rattle.mac_report.specs.Containers.{RowIs, Walks, fresh_tally, inspected, lacking, rest_for, skipped}
use Rattle.mac_report.specs.Reports.{FoundIs, IsWhole}
use Rattle.mac_report.specs.declared.tally.Tally.{Tally}

-- a container has no error, and is sound if no note says that something wasn't verified. Or it wasn't inspected, as the file's
-- budget is used up
abbrev pub IsQuiet : List ℕ → RowIs → Type 0
IsQuiet rest (inspected i) = (count_chosen true i.findings ≡ 0) × (AllByRecursion (λ f. is_unverified f ≡ false) i.findings → IsSound rest)
IsQuiet rest (lacking at) = ⊥
IsQuiet rest skipped = Unit {0}

-- each container of a walk is quiet
abbrev pub AreQuiet : (form : OutputFormat) (bytes : List ℕ) (before : Tally) (places : List ℕ) (text : List ℕ) (after : Tally) → Walks form bytes before places text after → Type 0
AreQuiet form bytes before [] text after walk = Unit {0}
AreQuiet form bytes before (at ∷ places) text after walk = IsQuiet (rest_for bytes before.turn at) walk.3.row × AreQuiet form bytes walk.1 places walk.2 after walk.4

-- if the report on a file counts no error, so is each of its containers
abbrev pub QuietAreSound : Type 0
QuietAreSound = (form : OutputFormat) (path bytes : List ℕ) (other : Option DataFileIs) (found : FoundIs) (text : List ℕ) (counts : Counts) (whole : IsWhole form path bytes other found text counts) → counts.errors ≡ 0
    → AreQuiet form bytes (fresh_tally bytes) (containers_in bytes 0) whole.containers whole.tally whole.walked
