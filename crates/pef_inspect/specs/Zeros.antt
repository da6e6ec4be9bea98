-- Rows of the tables of a loader section that are zero bytes. How many of them are noted is this project's own choice.
use Rattle.std.specs.Prelude.{ℕ, zero, suc, ◌+◌, ◌-◌, ◌*◌, ◌==◌, ◌&&◌, Bool, true, false, not, List, [], ◌∷◌, ◌++◌, Option, None, Some, nat_lt, if◌then◌else◌}
use Rattle.std.specs.Option.{option_map_or, option_to_list}
use Rattle.pef_format.specs.declared.place.Part.TheVariants as part
use Rattle.pef_words.specs.Bytes.{part_of}
use Rattle.pef_words.specs.Findings.{all_among}
use Rattle.pef_views.specs.Container.{Contained}
use Rattle.pef_loader.specs.Header.{imports_from, library_place, relocs_from}
use Rattle.pef_loader.specs.Loader.{Loaded}
use Rattle.pef_loader.specs.Partial.{exports_in, rows_in}
use Rattle.pef_loader.specs.Places.{place_of}
use Rattle.pef_inspect.specs.Findings.{note_finding}
use Rattle.pef_inspect.specs.declared.finding.Finding.{Finding}
use Rattle.pef_inspect.specs.declared.note.Note.TheVariants.{ZeroRows}
use Rattle.pef_inspect.specs.declared.zeros.Table.{Table}

-- all bytes are 0
abbrev pub are_zero : List ℕ → Bool
are_zero [] = true
are_zero (b ∷ bytes) = b == 0 && are_zero bytes

-- so many bytes from an offset on are there and are 0
abbrev pub are_zero_at : List ℕ → ℕ → ℕ → Bool
are_zero_at bytes at size = option_map_or are_zero (part_of bytes at size) false

-- row i of a table is zero bytes
unfoldable pub is_zero_row : Contained → Table → ℕ → Bool
is_zero_row c t i = option_map_or (λ at. are_zero_at c.bytes at t.size) (place_of c t.kind i 0).offset false

-- there is a row before it, and that one is zero bytes
abbrev pub follows_zero : Contained → Table → ℕ → Bool
follows_zero c t i = nat_lt 0 i && is_zero_row c t (i - 1)

-- it is zero bytes, and the row before it isn't
abbrev pub starts_zeros : Contained → Table → ℕ → Bool
starts_zeros c t i = is_zero_row c t i && not (follows_zero c t i)

-- how many of the n rows from one on are zero bytes, up to the first that isn't
abbrev pub zeros_from : Contained → Table → ℕ → ℕ → ℕ
zeros_from c t from zero = 0
zeros_from c t from (suc n) = if is_zero_row c t from then suc (zeros_from c t (from + 1) n) else 0

-- the note on so many zero rows from row i on, if they are enough
abbrev pub many_zeros : Contained → Table → ℕ → ℕ → Option Finding
many_zeros c t i rows = if nat_lt rows t.least then None else Some (note_finding (ZeroRows (t.size * rows)) (place_of c t.kind i 0))

-- the note on the zero rows that begin with row i
abbrev pub zero_note : Contained → Table → ℕ → Option Finding
zero_note c t i = if starts_zeros c t i then many_zeros c t i (zeros_from c t i (t.count - i)) else None

-- the notes on the rows of a table
abbrev pub zero_rows : Contained → Table → List Finding
zero_rows c t = all_among (λ i. option_to_list (zero_note c t i)) 0 t.count

-- the tables: two zero rows are noted, and four of the imports, which have four bytes each
abbrev pub libraries : Loaded → Table
libraries l = record { kind = part.Library; size = 24; count = rows_in l (library_place 0) 24 l.header.library_count; least = 2 }

abbrev pub imports : Loaded → Table
imports l = record { kind = part.Import; size = 4; count = rows_in l (imports_from l.header) 4 l.header.import_count; least = 4 }

abbrev pub relocations : Loaded → Table
relocations l = record { kind = part.Relocation; size = 12; count = rows_in l (relocs_from l.header) 12 l.header.reloc_count; least = 2 }

abbrev pub exports : Loaded → Table
exports l = record { kind = part.Export; size = 10; count = exports_in l; least = 2 }

-- the notes on zero rows of a loader section
unfoldable pub zero_notes : Contained → Loaded → List Finding
zero_notes c l = zero_rows c (libraries l) ++ (zero_rows c (imports l) ++ (zero_rows c (relocations l) ++ zero_rows c (exports l)))
