-- Laws of the text of an inspection.
use Rattle.std.specs.Prelude.{◌≡◌, ℕ, ◌+◌, ◌-◌, ◌≤◌, List, [], ◌++◌, None, Some, map}
use Rattle.pef_format.specs.declared.place.Part.{Part}
use Rattle.pef_inspect.specs.declared.finding.Finding.{Finding}
use Rattle.pef_report.specs.Inspection.{Row, elements, findings_text, merged_left, merged_text, object_count}
use Rattle.pef_report.specs.Readable.{Readable}

-- a row without its line
abbrev pub blank : Row → Row
blank row = record row { text = [] }

-- without the lines of the rows, the text is the lines of all errors and notes, in order
abbrev pub PrintsEachOnce : Type 0
PrintsEachOnce = (base : ℕ) (rows : List Row) (findings : List Finding)
    → merged_text base (map blank rows) findings ++ findings_text base (merged_left rows findings) ≡ findings_text base findings

-- the first rows of a kind and the ones after them are all rows: those after the first `most`, and those after any others
pub record JoinsRows : Type 0 where
  pub first : (most : ℕ) (r : Readable) (kind : Part) → 1 ≤ most
      → elements r kind 0 (object_count (Some most) r kind) ++ elements r kind most (object_count None r kind - most)
      ≡ elements r kind 0 (object_count None r kind)
  pub more : (r : Readable) (kind : Part) (from n m : ℕ) → elements r kind from n ++ elements r kind (from + n) m ≡ elements r kind from (n + m)
