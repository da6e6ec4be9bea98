-- What is odd about a container and breaks no rule. Which oddities are noted is this project's own choice.
use Rattle.std.specs.Prelude.{◌≡◌, ◌↔◌, ℕ, zero, suc, ℤ, pos, negsuc, ◌+◌, ◌-◌, ◌==◌, ◌&&◌, not, min, Bool, true, false, IsTrue, List, [], ◌∷◌, ◌++◌, Option, None, Some, Result, Ok, Err, length, nat_le, nat_lt, if◌then◌else◌}
use Rattle.std.specs.Option.{is_none, option_and_then, option_map, option_map_or, option_to_list}
use Rattle.pef_words.specs.Findings.{all_among, all_met}
use Rattle.pef_format.specs.Exports.{value_of}
use Rattle.pef_format.specs.Sections.{is_instantiable, kind_of, share_of}
use Rattle.pef_format.specs.declared.export.ExportValue.{ExportValue}
use Rattle.pef_format.specs.declared.export.ExportValue.TheVariants.{InSection, Absolute, Reexport}
use Rattle.pef_format.specs.declared.place.Part.{Part}
use Rattle.pef_format.specs.declared.place.Part.TheVariants as part
use Rattle.pef_format.specs.declared.section.SectionKind.{SectionKind}
use Rattle.pef_format.specs.declared.section.SectionKind.TheVariants as kind
use Rattle.pef_format.specs.declared.section.Share.{Share}
use Rattle.pef_format.specs.declared.section.Share.TheVariants as share
use Rattle.pef_views.specs.Container.{Contained, is_instantiated}
use Rattle.pef_views.specs.Header.{names_from}
use Rattle.pef_views.specs.Partial as views
use Rattle.pef_views.specs.declared.fault.ViewFault.{ViewFault}
use Rattle.pef_views.specs.declared.section.SectionHeader.{SectionHeader}
use Rattle.pef_loader.specs.Export.{HasIrregular}
use Rattle.pef_loader.specs.Header.{library_place, relocs_from}
use Rattle.pef_loader.specs.Loader.{Loaded}
use Rattle.pef_loader.specs.Partial as loader
use Rattle.pef_loader.specs.Partial.{ExportRow, exports_in, rows_in}
use Rattle.pef_loader.specs.Places.{place_of}
use Rattle.pef_loader.specs.declared.fault.LoaderFault.{LoaderFault}
use Rattle.pef_format.specs.declared.library.LibraryFields.{LibraryFields}
use Rattle.pef_reloc.specs.Verified.{verified}
use Rattle.pef_reloc.specs.declared.fault.RelocFault.{RelocFault}
use Rattle.pef_reloc.specs.declared.fault.RelocFault.TheVariants.{WordOutside}
use Rattle.pef_reloc.specs.declared.verifying.Sizes.{Sizes}
use Rattle.pef_inspect.specs.Errors.{programs_reached, run_cost, run_at}
use Rattle.pef_inspect.specs.Findings.{note_finding}
use Rattle.pef_inspect.specs.Limits.{container_limits, within}
use Rattle.pef_inspect.specs.Needs.{own_bytes}
use Rattle.pef_inspect.specs.Text.{text_signs}
use Rattle.pef_inspect.specs.Zeros.{zero_notes}
use Rattle.pef_inspect.specs.declared.limits.Limits.{Limits}
use Rattle.pef_inspect.specs.declared.note.Note.{Note}
use Rattle.pef_inspect.specs.declared.note.Note.TheVariants.{ReservedNotZero, UnknownKind, UnknownShare, VersionBelowOldest, EntryOutside, ExportOutside, WordOutsideImage, IrregularExports, SectionsOutOfOrder, NameOutside, TextDamage}
use Rattle.pef_inspect.specs.declared.finding.Finding.{Finding}

-- a note at a field of a part
abbrev pub note_at : Contained → Note → Part → ℕ → ℕ → Finding
note_at c note kind row field = note_finding note (place_of c kind row field)

-- 1 if section i has a kind that may be instantiated, else 0
abbrev pub instantiable_at : Contained → ℕ → ℕ
instantiable_at c i = option_map_or (λ (s : SectionHeader). if is_instantiable (kind_of s.section_kind) then 1 else 0) (views.header_in c i) 0

-- how many of the n sections from one on have such a kind
abbrev pub instantiable_among : Contained → ℕ → ℕ → ℕ
instantiable_among c from zero = 0
instantiable_among c from (suc n) = instantiable_at c from + instantiable_among c (from + 1) n

abbrev pub instantiable_sections : Contained → ℕ
instantiable_sections c = instantiable_among c 0 c.header.section_count

-- the tests of a container header: whether the container seems to have been changed as text is, both oldest versions, the order of the sections, and the reserved field
abbrev pub header_notes : Contained → List (Bool × Finding)
header_notes c = (nat_lt 0 (text_signs (own_bytes c)), note_at c (TextDamage (text_signs (own_bytes c))) part.Header 0 0)
    ∷ (nat_lt c.header.current_version c.header.old_def_version, note_at c VersionBelowOldest part.Header 0 20)
    ∷ (nat_lt c.header.current_version c.header.old_imp_version, note_at c VersionBelowOldest part.Header 0 24)
    ∷ (views.is_out_of_order c, note_at c (SectionsOutOfOrder (instantiable_sections c)) part.Header 0 34)
    ∷ (not (c.header.reserved == 0), note_at c ReservedNotZero part.Header 0 36)
    ∷ []

-- codes that the format doesn't name
abbrev pub is_unknown_kind : SectionKind → Bool
is_unknown_kind (kind.Other code) = true
is_unknown_kind kind = false

abbrev pub is_unknown_share : Share → Bool
is_unknown_share (share.Other code) = true
is_unknown_share share = false

-- where a name begins in the section name table, if it begins in the container
abbrev pub name_begins : Contained → ℤ → Option ℕ
name_begins c (pos offset) = if nat_lt offset (length c.bytes - names_from c.header) then Some offset else None
name_begins c (negsuc n) = None

-- a name's offset is neither that of a byte of the container nor -1, which says that there is no name
abbrev pub is_name_outside : Contained → ℤ → Bool
is_name_outside c (pos offset) = is_none (name_begins c (pos offset))
is_name_outside c (negsuc n) = not (n == 0)

-- the tests of section i
abbrev pub section_notes : Contained → ℕ → SectionHeader → List (Bool × Finding)
section_notes c i s = (is_name_outside c s.name_offset, note_at c NameOutside part.Section i 0)
    ∷ (is_unknown_kind (kind_of s.section_kind), note_at c UnknownKind part.Section i 24)
    ∷ (is_instantiated c.header i && is_unknown_share (share_of s.share_kind), note_at c UnknownShare part.Section i 25)
    ∷ (not (s.reserved == 0), note_at c ReservedNotZero part.Section i 27)
    ∷ []

abbrev pub section_row : Contained → ℕ → List Finding
section_row c i = option_map_or (λ s. all_met (section_notes c i s)) (views.header_in c i) []

-- the tests of library i: its fields and its reserved bytes
abbrev pub library_notes : Contained → ℕ → LibraryFields × ℕ → List (Bool × Finding)
library_notes c i v = (nat_lt v.0.current v.0.old_imp, note_at c VersionBelowOldest part.Library i 4)
    ∷ (not (v.1 == 0), note_at c ReservedNotZero part.Library i 21)
    ∷ []

abbrev pub library_row : Contained → Loaded → ℕ → List Finding
library_row c l i = option_map_or (λ v. all_met (library_notes c i v)) (loader.library_fields l i) []

-- an offset is past the end of an instantiated section. The end itself isn't
abbrev pub is_past : Contained → ℕ → ℕ → Bool
is_past c section offset =
    is_instantiated c.header section && option_map_or (λ (s : SectionHeader). nat_lt s.total_size offset) (views.header_in c section) false

abbrev pub is_past_entry : Contained → ℤ → ℕ → Bool
is_past_entry c (pos section) offset = is_past c section offset
is_past_entry c (negsuc n) offset = false

-- the tests of the entry points
abbrev pub entry_notes : Contained → Loaded → List (Bool × Finding)
entry_notes c l = (is_past_entry c l.header.main_section l.header.main_offset, note_at c EntryOutside part.Main 0 4)
    ∷ (is_past_entry c l.header.init_section l.header.init_offset, note_at c EntryOutside part.Init 0 4)
    ∷ (is_past_entry c l.header.term_section l.header.term_offset, note_at c EntryOutside part.Term 0 4)
    ∷ []

-- the test of relocation header k
abbrev pub relocation_notes : Contained → ℕ → ℕ → List (Bool × Finding)
relocation_notes c k reserved = (not (reserved == 0), note_at c ReservedNotZero part.Relocation k 2) ∷ []

abbrev pub relocation_row : Contained → Loaded → ℕ → List Finding
relocation_row c l k = option_map_or (λ reserved. all_met (relocation_notes c k reserved)) (loader.relocation_reserved l k) []

-- an export's value is an offset past the end of its section
abbrev pub is_past_value : Contained → ExportValue → Bool
is_past_value c (InSection section offset) = is_past c section offset
is_past_value c (Absolute value) = false
is_past_value c (Reexport import) = false

-- the test of export i
abbrev pub export_notes : Contained → ℕ → ExportRow → List (Bool × Finding)
export_notes c i r = (is_past_value c (value_of r.fields.section r.fields.value), note_at c ExportOutside part.Export i 4) ∷ []

abbrev pub export_row : Contained → Loaded → ℕ → List Finding
export_row c l i = option_map_or (λ r. all_met (export_notes c i r)) (loader.export_row l i) []

-- a refusal for a word that ends inside a section's memory: the instruction's offset, and the word's
abbrev pub word_inside : ℕ → Option RelocFault → Option (ℕ × ℕ)
word_inside memory None = None
word_inside memory (Some (WordOutside at word)) = if nat_le (word + 4) memory then Some (at, word) else None
word_inside memory (Some fault) = None

-- the first word that a program relocates outside an image of this size and inside its section
abbrev pub word_outside : ℕ → Sizes × List ℕ → Option (ℕ × ℕ)
word_outside image run = word_inside run.0.memory (verified (record run.0 { memory = min image run.0.memory }) run.1)

-- the size of the image that the program of relocation header k is for
abbrev pub image_size : Contained → Loaded → ℕ → Option ℕ
image_size c l k = option_and_then (λ (r : loader.RelocationRow). option_map (λ (s : SectionHeader). s.unpacked_size) (views.header_in c r.section)) (loader.relocation_row l k)

-- the note on the first such word of the program of relocation header k
abbrev pub word_note : Contained → Loaded → ℕ → Option Finding
word_note c l k = option_and_then (λ image. option_and_then (λ run. option_map (λ (w : ℕ × ℕ). note_at c (WordOutsideImage w.1) part.Program k w.0) (word_outside image run)) (run_at c l k)) (image_size c l k)

-- how many programs are verified
abbrev pub runs_reached : Limits → Contained → Loaded → ℕ
runs_reached limits c l = within (run_cost c l) limits.steps 0 (programs_reached limits l)

-- the notes on the rows of a loader section and on its programs
abbrev pub loader_notes : Limits → Contained → Loaded → List Finding
loader_notes limits c l = all_among (library_row c l) 0 (rows_in l (library_place 0) 24 l.header.library_count)
    ++ (all_met (entry_notes c l)
    ++ (all_among (relocation_row c l) 0 (rows_in l (relocs_from l.header) 12 l.header.reloc_count)
    ++ (all_among (export_row c l) 0 (exports_in l)
    ++ all_among (λ k. option_to_list (word_note c l k)) 0 (runs_reached limits c l))))

-- .. and those on zero rows
abbrev pub rows_notes : Limits → Contained → Loaded → List Finding
rows_notes limits c l = loader_notes limits c l ++ zero_notes c l

-- the note on exports that aren't searched by their hash words
abbrev pub irregular_note : Contained → Bool → List Finding
irregular_note c irregular = if irregular then note_at c IrregularExports part.LoaderHeader 0 44 ∷ [] else []

abbrev pub behind_notes : Limits → Contained → Result Loaded LoaderFault → Bool → List Finding
behind_notes limits c (Ok l) irregular = rows_notes limits c l ++ irregular_note c irregular
behind_notes limits c (Err f) irregular = []

-- the notes on a container
abbrev pub notes_in : Limits → Contained → Bool → List Finding
notes_in limits c irregular = all_met (header_notes c)
    ++ (all_among (section_row c) 0 c.header.section_count
    ++ behind_notes limits c (loader.partial_of (views.sections_allowed c) c.loader) irregular)

abbrev pub opened_notes : Limits → Result Contained ViewFault → Bool → List Finding
opened_notes limits (Ok c) irregular = notes_in limits c irregular
opened_notes limits (Err f) irregular = []

-- there are exports, and their table isn't one that is searched by its slots
abbrev pub IrregularLoader : Result Loaded LoaderFault → Type 0
IrregularLoader (Ok l) = HasIrregular l.bytes l.header
IrregularLoader (Err f) = ⊥

abbrev pub IrregularContainer : Contained → Type 0
IrregularContainer c = IrregularLoader (loader.partial_of (views.sections_allowed c) c.loader)

abbrev pub IrregularOpened : Result Contained ViewFault → Type 0
IrregularOpened (Ok c) = IrregularContainer c
IrregularOpened (Err f) = ⊥

-- some bytes are a container with such exports
unfoldable pub HasIrregularExports : List ℕ → Type 0
HasIrregularExports bytes = IrregularOpened (views.partial_of bytes)

-- the notes that follow others, by whether something holds
pub record Adds (before after : List Finding) (notes : Bool → List Finding) (holds : Type 0) : Type 0 where
  pub answer : Bool
  pub exact : IsTrue answer ↔ holds
  pub taken : after ≡ before ++ notes answer

-- the notes on some bytes as a container, except those that need memory. Programs that pass a limit have no note on their
-- words
unfoldable pub notes_within : Limits → List ℕ → Bool → List Finding
notes_within limits bytes irregular = opened_notes limits (views.partial_of bytes) irregular

-- the notes on some bytes within the limits for one container
unfoldable pub notes_of : List ℕ → Bool → List Finding
notes_of bytes irregular = notes_within container_limits bytes irregular
