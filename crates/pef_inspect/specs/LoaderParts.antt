-- Which bytes of a loader section belong to its parts, and the notes on those that belong to none. That header and tables are
-- one part, and so all names, and the slots, keys and exports, is this project's own rule.
use Rattle.std.specs.Prelude.{◌≡◌, ℕ, ◌+◌, ◌*◌, ◌^◌, ◌==◌, List, [], ◌∷◌, ◌++◌, Option, None, Some, Result, Ok, Err, length, max, min, nat_le, nat_lt, if◌then◌else◌}
use Rattle.std.specs.List.Sorted.{IsPermutation, IsSorted}
use Rattle.std.specs.Option.{option_to_list, unwrap_or}
use Rattle.pef_format.specs.declared.place.Part.TheVariants as part
use Rattle.pef_views.specs.Container.{Contained}
use Rattle.pef_views.specs.Extents.{greatest}
use Rattle.pef_views.specs.Partial.{sections_allowed}
use Rattle.pef_loader.specs.Header.{imports_from, library_place, relocs_from, tables_end}
use Rattle.pef_loader.specs.Loader.{Loaded}
use Rattle.pef_loader.specs.Partial as loader
use Rattle.pef_loader.specs.Places.{place_of}
use Rattle.pef_loader.specs.declared.fault.LoaderFault.{LoaderFault}
use Rattle.pef_words.specs.Findings.{all_among}
use Rattle.pef_words.specs.Refusals.{◌>>=◌}
use Rattle.pef_inspect.specs.Extents.{Extent, extent_order, gap_note, name_end, parts_notes}
use Rattle.pef_inspect.specs.declared.finding.Finding.{Finding}

-- the bytes from a place on, up to an end, if there are any
abbrev pub part_between : ℕ → ℕ → Option Extent
part_between from to = if nat_lt from to then Some (from, 0, to) else None

-- the header, and the tables of libraries, imports and relocation headers, as far as they are there
abbrev pub tables_part : Loaded → Extent
tables_part l = (0, 0, min (tables_end l.header) (length l.bytes))

-- the end of the section, beside which the last part is
abbrev pub end_part : Loaded → Extent
end_part l = (length l.bytes, 0, length l.bytes)

-- where a name begins, if it begins in the section, else 0
abbrev pub name_begin : Loaded → Option ℕ → ℕ
name_begin l None = 0
name_begin l (Some at) = if nat_lt at (length l.bytes) then at else 0

-- where the name of library i, and that of import j, begins
abbrev pub library_begin : Loaded → ℕ → ℕ
library_begin l i = name_begin l (loader.library_name_at l i)

abbrev pub import_begin : Loaded → ℕ → ℕ
import_begin l j = name_begin l (loader.import_name_at l j)

-- where the zero-ended name that begins last begins
abbrev pub last_begin : Loaded → ℕ
last_begin l = max
    (greatest (library_begin l) 0 (loader.rows_in l (library_place 0) 24 l.header.library_count))
    (greatest (import_begin l) 0 (loader.rows_in l (imports_from l.header) 4 l.header.import_count))

-- where the zero-ended names end: after the zero byte of the one that begins last, or with the section if it has none
abbrev pub ended_by : Loaded → ℕ → ℕ
ended_by l at = if at == 0 then 0 else unwrap_or (name_end l.bytes at) (length l.bytes)

-- where the name of export i ends
abbrev pub export_end : Loaded → ℕ → ℕ
export_end l i = unwrap_or (do
  at ← loader.export_name_at l i
  row ← loader.export_row l i
  name ← row.name
  Some (min at (length l.bytes) + length name)) 0

-- where all names end
abbrev pub strings_end : Loaded → ℕ
strings_end l = max (ended_by l (last_begin l)) (greatest (export_end l) 0 (loader.exports_in l))

abbrev pub strings_part : Loaded → Option Extent
strings_part l = part_between l.header.strings_offset (strings_end l)

-- where the slots of 4 bytes, the keys of 4 bytes and the exports of 10 bytes end. There are no more than 2^30 slots
abbrev pub exports_end : Loaded → ℕ
exports_end l =
    if nat_le l.header.export_power 30
    then min (l.header.export_hash_offset + 4 * 2 ^ l.header.export_power + 14 * l.header.export_count) (length l.bytes)
    else 0

abbrev pub exports_part : Loaded → Option Extent
exports_part l = part_between l.header.export_hash_offset (exports_end l)

-- the program of relocation header k, as far as it is there
abbrev pub program_part : Loaded → ℕ → Option Extent
program_part l k = loader.relocation_row l k >>= (λ r.
    part_between (l.header.reloc_instr_offset + r.first) (min (l.header.reloc_instr_offset + r.first + 2 * r.count) (length l.bytes)))

-- the parts of a loader section, and its end
unfoldable pub loader_parts : Loaded → List Extent
loader_parts l = tables_part l ∷ end_part l
    ∷ (option_to_list (strings_part l)
    ++ (option_to_list (exports_part l)
    ++ all_among (λ k. option_to_list (program_part l k)) 0 (loader.rows_in l (relocs_from l.header) 12 l.header.reloc_count)))

-- the note on the bytes before a part, if the parts before it end here
abbrev pub loader_note : Contained → Loaded → ℕ → Extent → Option Finding
loader_note c l end e = if nat_lt end e.0 then gap_note l.bytes (place_of c part.LoaderHeader 0 end) end e.0 else None

-- some extents are the parts of a loader section, in their order
pub record AreLoaderParts (l : Loaded) (extents : List Extent) : Type 0 where
  pub same : IsPermutation (loader_parts l) extents
  pub sorted : IsSorted extent_order extents

-- the notes on the bytes of a loader section that belong to no part
pub record AreGapsIn (c : Contained) (l : Loaded) (gaps : List Finding) : Type 0 where
  pub extents : List Extent
  pub are : AreLoaderParts l extents
  pub notes : gaps ≡ parts_notes (loader_note c l) [] extents

-- there are no such notes if the loader section has no header
abbrev pub AreGapsOpened : Contained → Result Loaded LoaderFault → List Finding → Type 0
AreGapsOpened c (Ok l) notes = AreGapsIn c l notes
AreGapsOpened c (Err fault) notes = notes ≡ []

abbrev pub AreGaps : Contained → List Finding → Type 0
AreGaps c notes = AreGapsOpened c (loader.partial_of (sections_allowed c) c.loader) notes

-- the notes on the bytes of a loader section that belong to no part follow others
pub record AddsGaps (c : Contained) (before after : List Finding) : Type 0 where
  pub gaps : List Finding
  pub are : AreGaps c gaps
  pub notes : after ≡ before ++ gaps
