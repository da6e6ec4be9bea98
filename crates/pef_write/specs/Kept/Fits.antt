-- Which numbers fit the fields that they are written to, and at which places fields are read.
use Rattle.std.specs.Prelude.{◌≡◌, ℕ, ◌+◌, ◌%◌, ◌^◌, ◌<◌, ◌≤◌, true, FitsSigned, Some, List, [], ◌∷◌, length, Option}
use Rattle.std.specs.Int.{w16}
use Rattle.std.specs.List.{All}
use Rattle.pef_format.specs.Exports.{Export}
use Rattle.pef_format.specs.Sections.{is_instantiable, share_code}
use Rattle.pef_loader.specs.Library.{Library}
use Rattle.pef_script.specs.declared.parts.Versions.{Versions}
use Rattle.pef_script.specs.Script.{DescribedSection}
use Rattle.pef_words.specs.Bytes.{number_at}
use Rattle.pef_write.specs.declared.field.Field.{Field}
use Rattle.pef_write.specs.Containers.{written_container}
use Rattle.pef_write.specs.Fields.{value, width}
use Rattle.pef_write.specs.Loaders.{LoaderTables, ProgramEntry, entry_offset, entry_section, strings_of, written_loader}

-- each number fits its field
abbrev pub AllFit : List Field → Type 0
AllFit [] = Unit {0}
AllFit (field ∷ fields) = (value field < 256 ^ width field) × AllFit fields

-- these fields follow a place, in their order
abbrev pub Reads : List ℕ → ℕ → ℕ → List Field → Type 0
Reads bytes from off [] = Unit {0}
Reads bytes from off (field ∷ fields) =
    (number_at (width field) bytes (from + off) ≡ Some (value field)) × Reads bytes from (off + width field) fields

-- a section that a container can have
pub record IsWritable (s : DescribedSection) : Type 0 where
  pub kind : is_instantiable s.header.kind ≡ true
  pub share : share_code s.header.share < 256
  pub align : s.header.align ≤ 31
  pub total : s.header.total < 2 ^ 32
  pub image : length s.image ≤ s.header.total

-- versions, sections and a loader section that are a container's
pub record AreWritable (v : Versions) (sections : List DescribedSection) (loader : List ℕ) : Type 0 where
  pub current : v.current < 2 ^ 32
  pub old_def : v.old_def < 2 ^ 32
  pub old_imp : v.old_imp < 2 ^ 32
  pub count : length sections + 1 < 2 ^ 16
  pub each : All IsWritable sections
  pub size : length (written_container v sections loader) < 2 ^ 32

-- an entry that fits its fields
abbrev pub EntryFits : Option (ℕ × ℕ) → Type 0
EntryFits entry = (entry_section entry < 2 ^ 32) × (entry_offset entry < 2 ^ 32)

pub record LibraryFits (l : Library) : Type 0 where
  pub old_imp : l.fields.old_imp < 2 ^ 32
  pub current : l.fields.current < 2 ^ 32
  pub count : l.fields.count < 2 ^ 32
  pub first : l.fields.first < 2 ^ 32
  pub options : l.fields.options < 2 ^ 8

-- a program is of whole halfwords
pub record ProgramFits (p : ProgramEntry) : Type 0 where
  pub section : p.section < 2 ^ 16
  pub even : length p.bytes % 2 ≡ 0

-- an export, whose class has four bits, and whose section has 16
pub record ExportFits (e : Export) : Type 0 where
  pub class : e.fields.class < 16
  pub value : e.fields.value < 2 ^ 32
  pub section : FitsSigned w16 e.fields.section

-- tables whose numbers fit their fields; a class has four bits, and offsets of imports' and exports' names
-- have 24
pub record TablesFit (t : LoaderTables) : Type 0 where
  pub main : EntryFits t.main
  pub init : EntryFits t.init
  pub term : EntryFits t.term
  pub libraries : All LibraryFits t.libraries
  pub imports : All (λ i. i.fields.class < 16) t.imports
  pub programs : All ProgramFits t.programs
  pub power : t.power < 2 ^ 32
  pub slots : All (λ w. w < 2 ^ 32) t.slots
  pub keys : All (λ w. w < 2 ^ 32) t.keys
  pub exports : All ExportFits t.exports
  pub strings : length (strings_of t) < 2 ^ 24
  pub size : length (written_loader t) < 2 ^ 32
