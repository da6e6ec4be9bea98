-- What a sink of findings keeps, as findings. A walk over a container says of a sink only which findings it took. So the list of
-- those begins with what else has to stay as it is: which places are filled, from which number on, and what was in them before.
use Rattle.std.specs.Prelude.{ℕ, Bool, true, false, List, [], ◌∷◌, Some, length}
use Rattle.pef_format.specs.declared.place.Part.TheVariants.{Header}
use Rattle.pef_inspect.specs.Findings.{note_finding}
use Rattle.pef_inspect.specs.declared.finding.Finding.{Finding}
use Rattle.pef_inspect.specs.declared.note.Note.TheVariants.{ReservedNotZero}
use Rattle.pef_records.specs.declared.structs.PefFinding.{PefFinding}

-- three numbers as a finding
abbrev pub numbers : ℕ → ℕ → ℕ → Finding
numbers a b c = note_finding ReservedNotZero (record { part = Header; row = a; field = b; offset = Some c })

abbrev pub flag : Bool → Finding
flag true = numbers 1 0 0
flag false = numbers 0 0 0

-- places as findings, four for each
abbrev pub places_kept : List PefFinding → List Finding
places_kept [] = []
places_kept (p ∷ ps) = numbers p.place.part p.place.row p.place.field ∷ numbers p.place.offset p.detail p.number ∷ flag p.is_error ∷ numbers p.detail_kind 0 0 ∷ places_kept ps

-- the places by the name of the reference to them, the number of the first row, and the places as they were
unfoldable pub kept : ℕ → ℕ → List PefFinding → List Finding
kept name from old = numbers name from (length old) ∷ places_kept old
