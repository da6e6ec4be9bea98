-- Which bytes of a container belong to its parts, and what is odd about it: bytes of two parts, of none, and after all.
-- That section headers and names are one part, and which bytes only align a part, are this project's own rules.
use Rattle.std.specs.Prelude.{◌≡◌, ℕ, zero, suc, ◌+◌, ◌-◌, ◌==◌, ◌&&◌, ◌||◌, Bool, true, false, min, max, List, [], ◌∷◌, ◌++◌, Option, None, Some, length, nat_lt, if◌then◌else◌}
use Rattle.std.specs.List.Sorted.{IsPermutation, IsSorted}
use Rattle.std.specs.Option.{option_map_or, option_to_list, unwrap_or}
use Rattle.std.specs.Ordering.{nat_cmp, ordering_then}
use Rattle.std.specs.declared.cmp.Ordering.{Ordering}
use Rattle.pef_format.specs.declared.place.Part.TheVariants as part
use Rattle.pef_format.specs.declared.place.Place.{Place}
use Rattle.pef_views.specs.Container.{Contained}
use Rattle.pef_views.specs.Header.{names_from}
use Rattle.pef_views.specs.Partial as views
use Rattle.pef_views.specs.declared.section.SectionHeader.{SectionHeader}
use Rattle.pef_words.specs.Bytes.{name_at, part_of}
use Rattle.pef_words.specs.Findings.{all_among}
use Rattle.pef_words.specs.Refusals.{◌>>=◌}
use Rattle.pef_inspect.specs.Findings.{note_finding, whole_place}
use Rattle.pef_inspect.specs.Oddities.{name_begins, note_at}
use Rattle.pef_inspect.specs.Zeros.{are_zero}
use Rattle.pef_inspect.specs.declared.finding.Finding.{Finding}
use Rattle.pef_inspect.specs.declared.note.Note.TheVariants.{Overlap, TrailingBytes, UnownedBytes}

-- where a part begins, which it is (0 for the headers and the names, or the number of a section and 1), and where it ends
abbrev pub Extent : Type 0
Extent = ℕ × ℕ × ℕ

-- where the name of section i begins in the section name table, if it begins in the container
abbrev pub name_offset : Contained → ℕ → Option ℕ
name_offset c i = views.header_in c i >>= (λ s. name_begins c s.name_offset)

-- the greater of two offsets, if there are any
abbrev pub later : Option ℕ → Option ℕ → Option ℕ
later None other = other
later (Some x) None = Some x
later (Some x) (Some y) = Some (max x y)

-- the greatest offset of the names of the n sections from one on
abbrev pub last_name : Contained → ℕ → ℕ → Option ℕ
last_name c from zero = None
last_name c from (suc n) = later (name_offset c from) (last_name c (from + 1) n)

-- where the name at a place ends, after its zero byte
abbrev pub name_end : List ℕ → ℕ → Option ℕ
name_end bytes from = name_at bytes from >>= (λ name. Some (from + length name + 1))

-- where the section name table ends: after the name that begins last, or after the section headers
abbrev pub names_end_at : Contained → Option ℕ → ℕ
names_end_at c None = names_from c.header
names_end_at c (Some offset) = unwrap_or (name_end c.bytes (names_from c.header + offset)) (names_from c.header)

abbrev pub names_end : Contained → ℕ
names_end c = names_end_at c (last_name c 0 c.header.section_count)

-- the headers and the names
abbrev pub head_extent : Contained → Extent
head_extent c = (0, 0, min (names_end c) (length c.bytes))

-- where the raw bytes of a section end in a container of some length
abbrev pub raw_end : ℕ → SectionHeader → ℕ
raw_end len s = if s.packed_size == 0 then 0 else min (s.container_offset + s.packed_size) len

-- the raw bytes of section i, if it has some
abbrev pub extent_in : ℕ → ℕ → SectionHeader → Option Extent
extent_in len i s = if nat_lt s.container_offset (raw_end len s) then Some (s.container_offset, i + 1, raw_end len s) else None

abbrev pub section_extent : Contained → ℕ → Option Extent
section_extent c i = views.header_in c i >>= extent_in (length c.bytes) i

-- the parts that have bytes
unfoldable pub extents_of : Contained → List Extent
extents_of c = head_extent c ∷ all_among (λ i. option_to_list (section_extent c i)) 0 c.header.section_count

-- by their beginnings, then by what they are, then by their ends
abbrev pub extent_order : Extent → Extent → Ordering
extent_order a b = ordering_then (nat_cmp a.0 b.0) (ordering_then (nat_cmp a.1 b.1) (nat_cmp a.2 b.2))

-- where some parts end
abbrev pub greatest_end : List Extent → ℕ
greatest_end [] = 0
greatest_end (e ∷ extents) = max e.2 (greatest_end extents)

-- bytes that only align the part after them
abbrev pub is_padding : List ℕ → Bool
is_padding bytes = nat_lt (length bytes) 16 && are_zero bytes

-- the note on the bytes between two parts, by the place of the first of them
unfoldable pub gap_note : List ℕ → Place → ℕ → ℕ → Option Finding
gap_note bytes place from to =
    if option_map_or is_padding (part_of bytes from (to - from)) false then None
    else Some (note_finding (UnownedBytes (to - from)) place)

-- the note on the bytes that a section shares with the parts before it
unfoldable pub overlap_note : Contained → ℕ → ℕ → Option Finding
overlap_note c which len = if which == 0 || len == 0 then None else Some (note_at c (Overlap len) part.Section (which - 1) 20)

-- the note on a part, if the parts before it end here
abbrev pub part_note : Contained → ℕ → Extent → Option Finding
part_note c end e = if nat_lt end e.0 then gap_note c.bytes (whole_place end) end e.0 else overlap_note c e.1 (min end e.2 - e.0)

-- the note on the bytes after all parts
abbrev pub trailing_note : Contained → ℕ → Option Finding
trailing_note c end = if nat_lt end (length c.bytes) then Some (note_finding (TrailingBytes (length c.bytes - end)) (whole_place end)) else None

-- the notes on some parts, each beside those before it, by the note on a part after the end of those
abbrev pub parts_notes : (ℕ → Extent → Option Finding) → List Extent → List Extent → List Finding
parts_notes note before [] = []
parts_notes note before (e ∷ extents) = option_to_list (note (greatest_end before) e) ++ parts_notes note (before ++ e ∷ []) extents

abbrev pub extent_notes : Contained → List Extent → List Finding
extent_notes c extents = parts_notes (part_note c) [] extents ++ option_to_list (trailing_note c (greatest_end extents))

-- some extents are the parts of a container, in their order
pub record AreParts (c : Contained) (extents : List Extent) : Type 0 where
  pub same : IsPermutation (extents_of c) extents
  pub sorted : IsSorted extent_order extents

-- the notes on the parts of a container follow others
pub record AddsExtents (c : Contained) (before after : List Finding) : Type 0 where
  pub extents : List Extent
  pub are : AreParts c extents
  pub notes : after ≡ before ++ extent_notes c extents
