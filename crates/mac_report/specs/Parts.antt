-- The parts of a report in JSON: what comes before the containers, each container, and what comes after them. Also the beginning of
-- a container's object, and further rows of it, for programs that show a file and don't want all rows at once.
use Rattle.std.specs.Prelude.{◌≡◌, ◌==◌, ℕ, Bool, true, false, List, [], ◌∷◌, ◌++◌, Option, option_map}
use Rattle.cfm_members.specs.Contents.{rest_from}
use Rattle.cfm_members.specs.Search.{containers_in}
use Rattle.pef_report.specs.Inspection.{excerpt_object, rows_text}
use Rattle.pef_rows.specs.declared.frames.Counts.{Counts}
use Rattle.mac_rows.specs.DataFiles.{DataFileIs}
use Rattle.mac_rows.specs.Views.{data_file_seen}
use Rattle.mac_rows.specs.declared.output_format.OutputFormat.TheVariants.{Json}
use Rattle.mac_report.specs.Containers.{IsRow, RowIs, first_turn, inspected, lacking, rest_for, row_text, skipped, turn_after}
use Rattle.mac_report.specs.Reports.{IsWhole, found_of, json_end, json_head}
use Rattle.mac_report.specs.declared.parts.ReportPart.{ReportPart}
use Rattle.mac_report.specs.declared.parts.ReportPart.TheVariants as part
use Rattle.mac_report.specs.declared.turn.Turn.{Turn}

-- an allocation failed
abbrev pub is_lacking : RowIs → Bool
is_lacking (inspected i) = false
is_lacking (lacking at) = true
is_lacking skipped = false

-- what is known of the container at a place of a file, by what the ones before leave, if no allocation failed
pub record IsKnown (bytes : List ℕ) (turn : Turn) (at : ℕ) (row : RowIs) : Type 0 where
  pub is : IsRow bytes turn at row
  pub known : is_lacking row ≡ false

-- the beginning of a container's object
abbrev pub excerpt_text : ℕ → RowIs → List ℕ
excerpt_text most (inspected i) = excerpt_object most i
excerpt_text most (lacking at) = []
excerpt_text most skipped = []

-- the text of a container
pub record IsContainerText (bytes : List ℕ) (turn : Turn) (at : ℕ) (text : List ℕ) : Type 0 where
  pub row : RowIs
  pub is : IsKnown bytes turn at row
  pub printed : text ≡ row_text Json (turn.containers == 0) row

pub record IsExcerpt (bytes : List ℕ) (turn : Turn) (at most : ℕ) (text : List ℕ) : Type 0 where
  pub row : RowIs
  pub is : IsKnown bytes turn at row
  pub printed : text ≡ excerpt_text most row

-- the text of a part
abbrev pub IsPartText : ReportPart → List ℕ → Type 0
IsPartText (part.Head path bytes data_file) text = text ≡ json_head path.now bytes.now (option_map data_file_seen data_file)
IsPartText (part.Container bytes place turn) text = IsContainerText bytes.now turn place text
IsPartText (part.Excerpt bytes place turn most) text = IsExcerpt bytes.now turn place most text
IsPartText (part.Rows bytes place kind from count) text = text ≡ rows_text place (rest_from bytes.now place) kind from count
IsPartText (part.End bytes data_file turn) text = text ≡ json_end (found_of (option_map data_file_seen data_file) bytes.now) turn.skipped

-- the texts of the containers at some places, one after the other, and what they leave
abbrev pub AreContainers : List ℕ → Turn → List ℕ → List ℕ → Turn → Type 0
AreContainers bytes turn [] text last = (text ≡ []) × (last ≡ turn)
AreContainers bytes turn (at ∷ places) text last =
    (here : List ℕ) × (others : List ℕ)
    × IsContainerText bytes turn at here × AreContainers bytes (turn_after turn (rest_for bytes turn at)) places others last × (text ≡ here ++ others)

-- the head, all containers and the end are a report
abbrev pub PartsJoin : Type 0
PartsJoin = (path bytes : List ℕ) (other : Option DataFileIs) (containers : List ℕ) (last : Turn)
    → AreContainers bytes (first_turn bytes) (containers_in bytes 0) containers last
    → (counts : Counts) × IsWhole Json path bytes other (found_of other bytes)
    (json_head path bytes other ++ (containers ++ json_end (found_of other bytes) last.skipped)) counts
