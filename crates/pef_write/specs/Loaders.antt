-- Which bytes are written for a loader section (Mac OS Runtime Architectures, "PEF Structure", "The
-- Loader Section"; PEFLoaderInfoHeader and what follows it in PEFBinaryFormat.h). The tables follow each
-- other without gaps. Where the strings and the export table lie is this project's own choice.
use Rattle.std.specs.Prelude.{ℕ, ◌+◌, ◌*◌, ◌/◌, ◌^◌, Bool, true, false, List, [], ◌∷◌, ◌++◌, Option, None, Some, length, map}
use Rattle.std.specs.Int.{w16, cast_unsigned, next_multiple_of}
use Rattle.std.specs.List.{flat_map}
use Rattle.pef_format.specs.Exports.{Export}
use Rattle.pef_format.specs.Symbols.{Import}
use Rattle.pef_loader.specs.Library.{Library}
use Rattle.pef_write.specs.declared.field.Field.{Field}
use Rattle.pef_write.specs.declared.field.Field.TheVariants.{Byte, Half, Word}
use Rattle.pef_write.specs.Fields.{padded, spelled}

-- a section's relocation program
pub record ProgramEntry : Type 0 where
  pub section : ℕ
  pub bytes : List ℕ

-- the tables of a loader section; the imports are in the order of their libraries, and the keys and the
-- exports in the order of the export table
pub record LoaderTables : Type 0 where
  pub main : Option (ℕ × ℕ)
  pub init : Option (ℕ × ℕ)
  pub term : Option (ℕ × ℕ)
  pub libraries : List Library
  pub imports : List Import
  pub programs : List ProgramEntry
  pub power : ℕ
  pub slots : List ℕ
  pub keys : List ℕ
  pub exports : List Export

-- an entry's section, or -1 if it is absent
abbrev pub entry_section : Option (ℕ × ℕ) → ℕ
entry_section None = 0xFFFFFFFF
entry_section (Some entry) = entry.0

-- an entry's offset, or 0 if it is absent
abbrev pub entry_offset : Option (ℕ × ℕ) → ℕ
entry_offset None = 0
entry_offset (Some entry) = entry.1

-- names with a zero byte after each
abbrev pub zero_ended : List (List ℕ) → List ℕ
zero_ended names = flat_map (λ name. name ++ 0 ∷ []) names

-- the programs, one after the other
abbrev pub program_bytes : List ProgramEntry → List ℕ
program_bytes programs = flat_map (λ p. p.bytes) programs

-- the strings: the names of libraries and imports, each with a zero byte, then those of exports without
abbrev pub strings_of : LoaderTables → List ℕ
strings_of t = zero_ended (map (λ l. l.name) t.libraries) ++ zero_ended (map (λ i. i.name) t.imports) ++ flat_map (λ e. e.name) t.exports

-- where the names of imports begin, and those of exports, counted from the first string
abbrev pub import_names_from : LoaderTables → ℕ
import_names_from t = length (zero_ended (map (λ l. l.name) t.libraries))

abbrev pub export_names_from : LoaderTables → ℕ
export_names_from t = import_names_from t + length (zero_ended (map (λ i. i.name) t.imports))

-- where the programs begin: after the header of 56 bytes, the libraries of 24 each, the imports of 4 and
-- the relocation headers of 12
abbrev pub programs_from : LoaderTables → ℕ
programs_from t = 56 + 24 * length t.libraries + 4 * length t.imports + 12 * length t.programs

-- where the strings begin: after the programs
abbrev pub strings_from : LoaderTables → ℕ
strings_from t = programs_from t + length (program_bytes t.programs)

-- where the export table begins: at the next multiple of 4 after the strings
abbrev pub exports_from : LoaderTables → ℕ
exports_from t = next_multiple_of (strings_from t + length (strings_of t)) 4

-- the fields of the loader header, in order (PEFLoaderInfoHeader)
unfoldable pub header_fields : LoaderTables → List Field
header_fields t = Word (entry_section t.main)
    ∷ Word (entry_offset t.main)
    ∷ Word (entry_section t.init)
    ∷ Word (entry_offset t.init)
    ∷ Word (entry_section t.term)
    ∷ Word (entry_offset t.term)
    ∷ Word (length t.libraries)
    ∷ Word (length t.imports)
    ∷ Word (length t.programs)
    ∷ Word (programs_from t)
    ∷ Word (strings_from t)
    ∷ Word (exports_from t)
    ∷ Word t.power
    ∷ Word (length t.exports)
    ∷ []

-- the fields of an imported library whose name is at an offset (PEFImportedLibrary)
abbrev pub library_entry : ℕ → Library → List Field
library_entry at l = Word at
    ∷ Word l.fields.old_imp
    ∷ Word l.fields.current
    ∷ Word l.fields.count
    ∷ Word l.fields.first
    ∷ Byte l.fields.options
    ∷ Byte 0
    ∷ Half 0
    ∷ []

-- .. and of libraries, if the first name is there and the others follow it
unfoldable pub library_fields : ℕ → List Library → List Field
library_fields at [] = []
library_fields at (l ∷ libraries) = library_entry at l ++ library_fields (at + (length l.name + 1)) libraries

-- the class byte of an import: its class, with the highest bit for one that may be missing
abbrev pub class_byte : Bool → ℕ → ℕ
class_byte true class = class + 0x80
class_byte false class = class

-- the fields of an imported symbol whose name is at an offset (PEFImportedSymbol)
abbrev pub import_entry : ℕ → Import → List Field
import_entry at i = Word (class_byte i.fields.weak i.fields.class * 2 ^ 24 + at) ∷ []

-- .. and of imports
unfoldable pub import_fields : ℕ → List Import → List Field
import_fields at [] = []
import_fields at (i ∷ imports) = import_entry at i ++ import_fields (at + (length i.name + 1)) imports

-- the fields of the header of a program that is at an offset (PEFLoaderRelocationHeader)
abbrev pub relocation_entry : ℕ → ProgramEntry → List Field
relocation_entry at p = Half p.section ∷ Half 0 ∷ Word (length p.bytes / 2) ∷ Word at ∷ []

-- .. and of those of programs, one after the other
unfoldable pub program_fields : ℕ → List ProgramEntry → List Field
program_fields at [] = []
program_fields at (p ∷ programs) = relocation_entry at p ++ program_fields (at + length p.bytes) programs

-- the fields of an exported symbol whose name is at an offset (PEFExportedSymbol)
abbrev pub export_entry : ℕ → Export → List Field
export_entry at e = Word (e.fields.class * 2 ^ 24 + at) ∷ Word e.fields.value ∷ Half (cast_unsigned w16 e.fields.section) ∷ []

-- .. and of exports
unfoldable pub export_fields : ℕ → List Export → List Field
export_fields at [] = []
export_fields at (e ∷ exports) = export_entry at e ++ export_fields (at + length e.name) exports

-- the libraries, the imports and the relocation headers
abbrev pub entry_fields : LoaderTables → List Field
entry_fields t = library_fields 0 t.libraries ++ (import_fields (import_names_from t) t.imports ++ program_fields 0 t.programs)

-- all fields before the programs
abbrev pub front_fields : LoaderTables → List Field
front_fields t = header_fields t ++ entry_fields t

-- the export table: slots, keys and exports
abbrev pub table_fields : LoaderTables → List Field
table_fields t = map Word t.slots
    ++ (map Word t.keys
    ++ export_fields (export_names_from t) t.exports)

-- a loader section
unfoldable pub written_loader : LoaderTables → List ℕ
written_loader t = padded 4 (spelled (front_fields t) ++ (program_bytes t.programs ++ strings_of t)) ++ spelled (table_fields t)
