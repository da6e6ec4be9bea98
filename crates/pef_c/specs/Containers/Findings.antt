-- The errors of a container and the notes on it as C sees them, and what `pef_findings` returns and writes.
use Rattle.std.specs.Prelude.{◌≡◌, ◌↔◌, ◌==◌, ℕ, Bool, IsTrue, List, ◌++◌, MatchBool, Some, map}
use Rattle.pef_inspect.specs.Details.{detail_of, detail_value}
use Rattle.pef_inspect.specs.Errors.{errors_of}
use Rattle.pef_inspect.specs.Findings.{finding_number, is_error}
use Rattle.pef_inspect.specs.More.{AreMore}
use Rattle.pef_inspect.specs.Oddities.{HasIrregularExports, notes_of}
use Rattle.pef_inspect.specs.declared.detail.Detail.{Detail}
use Rattle.pef_inspect.specs.declared.detail.Detail.TheVariants as detail
use Rattle.pef_inspect.specs.declared.finding.Finding.{Finding}
use Rattle.pef_records.specs.Buffers.{FillsPart}
use Rattle.pef_records.specs.Places.{place_or_nowhere}
use Rattle.pef_records.specs.declared.structs.PefFinding.{PefFinding}

-- the codes of what a detail is (PEF_DETAIL_NONE and those after it)
abbrev pub detail_kind : Detail → ℕ
detail_kind detail.None = 0
detail_kind (detail.Word n) = 1
detail_kind (detail.Length n) = 2
detail_kind (detail.Sections n) = 3

abbrev pub finding_row : Finding → PefFinding
finding_row f = record {
  place = place_or_nowhere (Some f.place);
  detail = detail_value (detail_of f.cause);
  number = finding_number f;
  is_error = is_error f;
  detail_kind = detail_kind (detail_of f.cause);
}

-- all errors of some bytes as a container, and all notes that need no memory, by whether its exports are irregular
abbrev pub rows_of : List ℕ → Bool → List PefFinding
rows_of bytes irregular = map finding_row (errors_of bytes ++ notes_of bytes irregular)

-- `pef_findings`: 0, and the rows from a number on are in the first places, and counted
pub record FindingsAnswer (bytes : List ℕ) (from : ℕ) (old new : List PefFinding) (after answer : ℕ) : Type 0 where
  pub irregular : Bool
  pub exact : IsTrue irregular ↔ HasIrregularExports bytes
  pub filled : FillsPart (rows_of bytes irregular) from old new after
  pub number_is : answer ≡ 0

-- `pef_more_notes`: 0, and the notes that need memory are in the first places, from a number on, and counted; or 99, and nothing is
-- written
abbrev pub MoreNotesAnswer : List ℕ → ℕ → List PefFinding → List PefFinding → ℕ → ℕ → ℕ → Type 0
MoreNotesAnswer bytes from old new before after answer =
    MatchBool (answer == 0) ((found : List Finding) × AreMore bytes found × FillsPart (map finding_row found) from old new after)
    ((answer ≡ 99) × (new ≡ old) × (after ≡ before))
