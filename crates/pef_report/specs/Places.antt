-- Where errors and notes are printed among the rows.
use Rattle.std.specs.Prelude.{◌≡◌, ◌≢◌, ◌<◌, ◌≤◌, ◌^◌, ℕ, List, [], ◌∷◌, ◌++◌, length}
use Rattle.std.specs.List.{AllByRecursion}
use Rattle.pef_format.specs.declared.place.Part.{Part}
use Rattle.pef_format.specs.declared.place.Part.TheVariants.{Program}
use Rattle.pef_inspect.specs.declared.finding.Finding.{Finding}
use Rattle.pef_inspect.specs.declared.limits.Limits.{Limits}
use Rattle.pef_report.specs.Inspection.{Inspected, InspectsWithin, Row, finding_text, findings_text, merged_left, merged_text, row_parts, rows_of}
use Rattle.pef_report.specs.Order.{finding_rank, rank, row_part}
use Rattle.pef_report.specs.Readable.{readable_at}

-- the lines of rows, and of errors and notes among them and after them
abbrev pub whole_text : ℕ → List Row → List Finding → List ℕ
whole_text base rows findings = merged_text base rows findings ++ findings_text base (merged_left rows findings)

-- each row is after those before it
abbrev pub Rises : List Row → Type 0
Rises [] = Unit {0}
Rises (row ∷ rows) = AllByRecursion (λ other. row.rank < other.rank) rows × Rises rows

-- an error or a note is printed after the rows up to its rank, and before the others. So the row of its rank is the last one
-- before it
pub record IsInPlace (base : ℕ) (rows : List Row) (first : List Finding) (f : Finding) (others : List Finding) : Type 0 where
  pub earlier : List Row
  pub later : List Row
  pub parts : rows ≡ earlier ++ later
  pub up_to : AllByRecursion (λ row. row.rank ≤ finding_rank f) earlier
  pub past : AllByRecursion (λ row. finding_rank f < row.rank) later
  pub text : whole_text base rows (first ++ f ∷ others) ≡ whole_text base earlier first ++ (finding_text base f ++ whole_text base later others)

-- the rows and instructions of a container of at most 2^34 bytes each have a rank of their own, in their order. A part has that
-- of its row, and an instruction that of its offset. Each error and note of an inspection is in its place
pub record PrintsInPlace : Type 0 where
  pub rows : (base : ℕ) (bytes : List ℕ) (programs : ℕ) → length bytes ≤ 2 ^ 34 → Rises (rows_of (readable_at base bytes programs) row_parts)
  pub own : (kind : Part) (row field : ℕ) → kind ≢ Program → rank kind row field ≡ rank (row_part kind) row 0
  pub findings : (limits : Limits) (base : ℕ) (bytes : List ℕ) (i : Inspected) → InspectsWithin limits base bytes i → length bytes ≤ 2 ^ 34
      → (first : List Finding) (f : Finding) (others : List Finding) → i.findings ≡ first ++ f ∷ others
      → IsInPlace i.base (rows_of (readable_at i.base i.bytes i.programs) row_parts) first f others
