-- What the calls return that open a part of a report.
use Rattle.std.specs.Prelude.{◌≡◌, ◌==◌, ℕ, List, Option, None, Some, MatchBool, if◌then◌else◌}
use Rattle.cfm_members.specs.Contents.{rest_from}
use Rattle.pef_format.specs.declared.place.Part.{Part}
use Rattle.pef_format.specs.declared.place.Part.TheVariants.{Section, Library, Import, Relocation, Export}
use Rattle.pef_report.specs.Inspection.{rows_text}
use Rattle.pef_records.specs.declared.structs.PefRowRange.{PefRowRange}

-- 0, and such a text is still to be read; or 99, and the report isn't open
abbrev pub OpenPartAnswers : (List ℕ → Type 0) → Option (List ℕ) → ℕ → Type 0
OpenPartAnswers IsText new answer = MatchBool (answer == 0) ((text : List ℕ) × IsText text × (new ≡ Some text)) ((answer ≡ 99) × (new ≡ None))

-- the kinds of rows that a container can have several of, by the numbers of their parts
abbrev pub row_part : ℕ → Option Part
row_part number =
    if number == 2 then Some Section else
    if number == 4 then Some Library else
    if number == 5 then Some Import else
    if number == 9 then Some Relocation else
    if number == 10 then Some Export else
    None

-- `pef_report_open_rows`: rows of a kind; or 201 if there is no such kind, and the report isn't open
abbrev pub OpenRowsAnswers : List ℕ → PefRowRange → Option Part → Option (List ℕ) → ℕ → Type 0
OpenRowsAnswers file rows None new answer = (answer ≡ 201) × (new ≡ None)
OpenRowsAnswers file rows (Some kind) new answer =
    OpenPartAnswers (λ text. text ≡ rows_text rows.offset (rest_from file rows.offset) kind rows.from rows.count) new answer
