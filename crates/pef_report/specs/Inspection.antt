-- The inspection of a container as text and as JSON.
use Rattle.std.specs.Prelude.{◌≡◌, ◌↔◌, ℕ, zero, suc, ◌+◌, ◌-◌, ◌==◌, Bool, IsTrue, true, false, not, List, [], ◌∷◌, ◌++◌, Option, None, Some, codes, decimal, map, min, take, if◌then◌else◌}
use Rattle.std.specs.Option.{unwrap_or}
use Rattle.pef_format.specs.declared.place.Part.{Part}
use Rattle.pef_format.specs.declared.place.Part.TheVariants as part
use Rattle.pef_inspect.specs.Details.{detail_of}
use Rattle.pef_inspect.specs.Errors.{errors_within}
use Rattle.pef_inspect.specs.Findings.{finding_name, finding_number, is_error}
use Rattle.pef_inspect.specs.Limits.{container_limits}
use Rattle.pef_inspect.specs.More.{AreMoreWithin}
use Rattle.pef_inspect.specs.Oddities.{HasIrregularExports, notes_within}
use Rattle.pef_inspect.specs.Shown.{programs_shown}
use Rattle.pef_inspect.specs.declared.finding.Finding.{Finding}
use Rattle.pef_inspect.specs.declared.limits.Limits.{Limits}
use Rattle.pef_reloc.specs.Unrolled.{Step}
use Rattle.pef_rows.specs.Findings.{finding_line, finding_object}
use Rattle.pef_rows.specs.Objects.{separator}
use Rattle.pef_report.specs.Order.{IsInOrder, after, before, rank}
use Rattle.pef_rows.specs.Programs.{Program, instr_line, step_offset, steps_in}
use Rattle.pef_report.specs.Readable.{Readable, line_at, object_at, program_of, readable_at, row_count}
use Rattle.pef_report.specs.Verdict.{verdict_line, verdict_object, verdict_of}
use Rattle.pef_report.specs.declared.verdict.Verdict.{Verdict}

-- the bytes of a container, their offset in the file, how many relocation programs are printed, and all errors and notes in the
-- order of their rows
pub record Inspected : Type 0 where
  pub base : ℕ
  pub bytes : List ℕ
  pub programs : ℕ
  pub findings : List Finding

-- all errors and notes of some bytes as a container that are found within limits: the errors, the notes, and the notes that
-- need memory
pub record AreAll (limits : Limits) (bytes : List ℕ) (all : List Finding) : Type 0 where
  pub irregular : Bool
  pub irregular_is : IsTrue irregular ↔ HasIrregularExports bytes
  pub more : List Finding
  pub more_are : AreMoreWithin limits bytes more
  pub are : all ≡ errors_within limits bytes ++ (notes_within limits bytes irregular ++ more)

-- the inspection of some bytes within limits: the programs that are printed, and all errors and notes, in the order of their
-- rows
pub record InspectsWithin (limits : Limits) (base : ℕ) (bytes : List ℕ) (i : Inspected) : Type 0 where
  pub base_is : i.base ≡ base
  pub bytes_are : i.bytes ≡ bytes
  pub programs_are : i.programs ≡ programs_shown bytes
  pub all : List Finding
  pub all_are : AreAll limits bytes all
  pub in_order : IsInOrder all i.findings

-- the same within the limits for one container
abbrev pub Inspects : ℕ → List ℕ → Inspected → Type 0
Inspects base bytes i = InspectsWithin container_limits base bytes i

-- the errors among findings, or the notes
abbrev pub is_chosen : Bool → Finding → Bool
is_chosen errors f = if errors then is_error f else not (is_error f)

-- how many they are
abbrev pub count_chosen : Bool → List Finding → ℕ
count_chosen errors [] = 0
count_chosen errors (f ∷ fs) = if is_chosen errors f then suc (count_chosen errors fs) else count_chosen errors fs

-- the line of an error or a note, and its object
unfoldable pub finding_text : ℕ → Finding → List ℕ
finding_text base f = finding_line base (finding_number f) (finding_name f) (is_error f) f.place (detail_of f.cause)

unfoldable pub finding_json : ℕ → Finding → List ℕ
finding_json base f = finding_object base (finding_number f) (finding_name f) f.place (detail_of f.cause)

-- the lines of errors and notes
abbrev pub findings_text : ℕ → List Finding → List ℕ
findings_text base [] = []
findings_text base (f ∷ fs) = finding_text base f ++ findings_text base fs

-- a row, or an instruction: its place in the order, and its line, which is empty if it can't be read
pub record Row : Type 0 where
  pub rank : ℕ
  pub text : List ℕ

abbrev pub row_at : Readable → Part → ℕ → Row
row_at r kind i = record { rank = rank kind i 0; text = unwrap_or (line_at r kind i) [] }

-- an instruction of the program of relocation header k, which begins at `base`
abbrev pub instr_row : ℕ → ℕ → Step → Row
instr_row k base step = record { rank = rank part.Program k step.0; text = instr_line (step_offset base step) step.1 }

abbrev pub program_rows : ℕ → Option Program → List Row
program_rows k None = []
program_rows k (Some p) = map (instr_row k p.at) (steps_in p)

-- what belongs to a row: the instructions of a relocation header
abbrev pub rows_below : Readable → Part → ℕ → List Row
rows_below r part.Relocation k = program_rows k (program_of r k)
rows_below r kind i = []

-- n rows of a kind
abbrev pub rows_among : Readable → Part → ℕ → ℕ → List Row
rows_among r kind from zero = []
rows_among r kind from (suc n) = (row_at r kind from ∷ rows_below r kind from) ++ rows_among r kind (from + 1) n

-- all rows of some kinds
abbrev pub rows_of : Readable → List Part → List Row
rows_of r [] = []
rows_of r (kind ∷ kinds) = rows_among r kind 0 (row_count r kind) ++ rows_of r kinds

-- the kinds of rows, in the order in which they are printed
abbrev pub row_parts : List Part
row_parts = part.Header ∷ part.Section ∷ part.LoaderHeader ∷ part.Library ∷ part.Import ∷ part.Main ∷ part.Init ∷ part.Term
    ∷ part.Relocation ∷ part.Export ∷ []

-- the lines of rows. Before each row are the lines of those errors and notes that are about rows before it
abbrev pub merged_text : ℕ → List Row → List Finding → List ℕ
merged_text base [] left = []
merged_text base (row ∷ rows) left = (findings_text base (before row.rank left) ++ row.text) ++ merged_text base rows (after row.rank left)

-- the errors and notes that are left after the last row
abbrev pub merged_left : List Row → List Finding → List Finding
merged_left [] left = left
merged_left (row ∷ rows) left = merged_left rows (after row.rank left)

-- the text of an inspection: the rows that can be read, each with the errors and notes about it below it, and the verdict
unfoldable pub inspection_text : Inspected → List ℕ
inspection_text i =
    let rows = rows_of (readable_at i.base i.bytes i.programs) row_parts in
    merged_text i.base rows i.findings ++ (findings_text i.base (merged_left rows i.findings) ++ verdict_line (verdict_of i.bytes i.findings))

-- the objects of the errors among findings, or of the notes, with commas between them
abbrev pub findings_json : ℕ → Bool → Bool → List Finding → List ℕ
findings_json base errors is_first [] = []
findings_json base errors is_first (f ∷ fs) =
    if is_chosen errors f
    then (separator is_first ++ finding_json base f) ++ findings_json base errors false fs
    else findings_json base errors is_first fs

-- how many objects are printed of a kind of row, if at most so many are wanted: one if a container can't have several of them
abbrev pub at_most : Option ℕ → ℕ → ℕ
at_most None n = n
at_most (Some most) n = min n most

abbrev pub object_count : Option ℕ → Readable → Part → ℕ
object_count most r part.Header = 1
object_count most r part.LoaderHeader = 1
object_count most r part.Main = 1
object_count most r part.Init = 1
object_count most r part.Term = 1
object_count most r kind = at_most most (row_count r kind)

-- the object of row i of a kind, or `null` if it can't be read, after a comma
abbrev pub element : Readable → Part → ℕ → List ℕ
element r kind i = separator (i == 0) ++ unwrap_or (object_at r kind i) (codes "null")

abbrev pub elements : Readable → Part → ℕ → ℕ → List ℕ
elements r kind from zero = []
elements r kind from (suc n) = element r kind from ++ elements r kind (from + 1) n

-- members of an object: what is before the elements of each, and their kind
abbrev pub members_text : Option ℕ → Readable → List (List ℕ × Part) → List ℕ
members_text most r [] = []
members_text most r (m ∷ members) = (m.0 ++ elements r m.1 0 (object_count most r m.1)) ++ members_text most r members

abbrev pub row_members : List (List ℕ × Part)
row_members = (codes ",\"header\":", part.Header)
    ∷ (codes ",\"sections\":[", part.Section)
    ∷ (codes "],\"loader\":", part.LoaderHeader)
    ∷ (codes ",\"libraries\":[", part.Library)
    ∷ (codes "],\"imports\":[", part.Import)
    ∷ (codes "],\"relocations\":[", part.Relocation)
    ∷ (codes "],\"exports\":[", part.Export)
    ∷ (codes "],\"entries\":{\"main\":", part.Main)
    ∷ (codes ",\"init\":", part.Init)
    ∷ (codes ",\"term\":", part.Term)
    ∷ []

-- the rows of a container as members of its object
unfoldable pub rows_json : Option ℕ → Inspected → List ℕ
rows_json most i = (codes "{\"offset\":" ++ decimal i.base) ++ members_text most (readable_at i.base i.bytes i.programs) row_members

-- the list of errors, or of notes
unfoldable pub list_json : List ℕ → Inspected → Bool → List ℕ
list_json key i errors = key ++ findings_json i.base errors true i.findings

-- an object of JSON on one line, with at most so many rows of each kind
unfoldable pub object_within : Option ℕ → Verdict → Inspected → List ℕ
object_within most verdict i =
    rows_json most i ++ (list_json (codes "},\"errors\":[") i true ++ (list_json (codes "],\"notes\":[") i false ++ verdict_object verdict))

-- the object of an inspection
abbrev pub inspection_object : Inspected → List ℕ
inspection_object i = object_within None (verdict_of i.bytes i.findings) i

-- its beginning: the first rows of each kind, without instructions, and the first errors and notes. The verdict is that of all
abbrev pub excerpt_object : ℕ → Inspected → List ℕ
excerpt_object most i = object_within (Some most) (verdict_of i.bytes i.findings) (record i { programs = 0; findings = take most i.findings })

-- the objects of the rows of a kind from one on, at most so many. A comma is before each but the first of all
unfoldable pub rows_text : ℕ → List ℕ → Part → ℕ → ℕ → List ℕ
rows_text base bytes kind from count =
    let r = readable_at base bytes (programs_shown bytes) in
    elements r kind from (min (row_count r kind - from) count)
