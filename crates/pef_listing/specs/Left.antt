-- What of a listing is left to be printed at a place in it.
use Rattle.std.specs.Prelude.{◌≡◌, ℕ, ◌<◌, ◌-◌, Bool, true, false, List, [], ◌++◌, Result, Ok, Err, drop, length, take}
use Rattle.pef_loader.specs.Loader.{Loaded}
use Rattle.pef_loader.specs.Views.{loaded}
use Rattle.pef_ports.specs.Ports.{Stream}
use Rattle.pef_ports.specs.Sent.{Sends}
use Rattle.pef_reloc.specs.Views.{listed}
use Rattle.pef_views.specs.Container.{Contained}
use Rattle.pef_views.specs.Views.{contained}
use Rattle.pef_listing.specs.Instructions.{program_text}
use Rattle.pef_listing.specs.Listing.{container_text, each_text, entries_lines, export_lines, import_lines, library_lines, reloc_lines, section_lines}
use Rattle.pef_listing.specs.declared.line_reader.ListingCursor.{ListingCursor}
use Rattle.pef_listing.specs.declared.line_reader.ListingCursor.TheVariants.{Header, Section, Library, Import, Entries, Relocation, Instruction, Export}
use Rattle.pef_listing.specs.declared.line_reader.LineReader.{LineReader}
use Rattle.pef_listing.specs.declared.reader.ListingReader.{ListingReader}

-- the lines from a part on, of those with numbers up to a count
abbrev pub lines_from : (ℕ → List ℕ) → ℕ → ℕ → List ℕ
lines_from text count i = each_text text i (count - i)

-- the lines from a part on, and all lines after those of its kind
abbrev pub from_export : Loaded → ℕ → List ℕ
from_export l i = lines_from (export_lines l) l.header.export_count i

abbrev pub from_relocation : Loaded → ℕ → List ℕ
from_relocation l k = lines_from (reloc_lines l) l.header.reloc_count k ++ from_export l 0

abbrev pub from_entries : Loaded → List ℕ
from_entries l = entries_lines l ++ from_relocation l 0

abbrev pub from_import : Loaded → ℕ → List ℕ
from_import l j = lines_from (import_lines l) l.header.import_count j ++ from_entries l

abbrev pub from_library : Loaded → ℕ → List ℕ
from_library l i = lines_from (library_lines l) l.header.library_count i ++ from_import l 0

abbrev pub from_section : Contained → Loaded → ℕ → List ℕ
from_section c l i = lines_from (section_lines c) c.header.section_count i ++ from_library l 0

-- the lines from a place on
abbrev pub lines_at : Contained → Loaded → ListingCursor → List ℕ
lines_at c l Header = container_text c.header ++ from_section c l 0
lines_at c l (Section i) = from_section c l i
lines_at c l (Library i) = from_library l i
lines_at c l (Import j) = from_import l j
lines_at c l Entries = from_entries l
lines_at c l (Relocation k) = from_relocation l k
lines_at c l (Instruction instrs k) = program_text (listed instrs) ++ from_relocation l k
lines_at c l (Export i) = from_export l i

-- the lines that a reader hasn't printed
abbrev pub lines_left : LineReader → List ℕ
lines_left r = lines_at (contained r.listing.container) (loaded r.listing.loader) r.place

-- a step over some lines: it went past them; or no line was left; or it failed, and went nowhere
abbrev pub Steps : {E : Type 0} → Result Bool E → ListingCursor → ListingCursor → List ℕ → List ℕ → List ℕ → Type 0
Steps (Ok true) place place' lines rest left = (0 < length lines) × (left ≡ rest)
Steps (Ok false) place place' lines rest left = (lines ≡ []) × (rest ≡ []) × (left ≡ [])
Steps (Err fault) place place' lines rest left = place' ≡ place

-- the next lines of those that were left were sent
pub record SendsNext {E : Type 0} (result : Result Bool E) (before after : Stream) (page page' : List ℕ) (old new : LineReader) : Type 0 where
  pub lines : List ℕ
  pub rest : List ℕ
  pub front : lines_left old ≡ lines ++ rest
  pub sends : Sends result before after page page' lines
  pub steps : Steps result old.place new.place lines rest (lines_left new)

-- the text that wasn't read: of the lines that were made, and of those that weren't
abbrev pub text_left : ListingReader → List ℕ
text_left r = drop r.read r.made.items ++ lines_left r.lines

-- the next bytes of a text, as many as the buffer has places, are at its front, the rest of it is unchanged, and they are
-- counted; or nothing is read
abbrev pub Reads : {E : Type 0} → Result ℕ E → List ℕ → List ℕ → List ℕ → List ℕ → Type 0
Reads (Ok count) text text' buffer buffer' =
    (count ≡ length (take (length buffer) text)) × (buffer' ≡ take (length buffer) text ++ drop count buffer) × (text' ≡ drop count text)
Reads (Err fault) text text' buffer buffer' = (text' ≡ text) × (buffer' ≡ buffer)

-- some bytes were added at the end
abbrev pub Grows : List ℕ → List ℕ → Type 0
Grows before after = (more : List ℕ) × (after ≡ before ++ more)
