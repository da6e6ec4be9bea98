-- What a script describes: the parts of a container, by their names and numbers. The language of scripts is
-- this project's own (docs/SCRIPTS.md).
use Rattle.std.specs.Prelude.{ℕ, ℤ, ◌+◌, Bool, List, Option, length, map}
use Rattle.std.specs.List.{sum_by}
use Rattle.pef_format.specs.declared.section.SectionKind.{SectionKind}
use Rattle.pef_format.specs.declared.section.Share.{Share}
use Rattle.pef_format.specs.declared.symbol.LibraryOptions.{LibraryOptions}
use Rattle.pef_format.specs.declared.symbol.SymbolClass.{SymbolClass}
use Rattle.pef_format.specs.Exports.{Export}
use Rattle.pef_format.specs.Symbols.{Import, class_code}
use Rattle.pef_reloc.specs.declared.fixup.Fixup.{Fixup}
use Rattle.pef_script.specs.declared.parts.Versions.{Versions}

-- a section's line (the fields of PEFSectionHeader); the alignment is an exponent of two
pub record DescribedHeader : Type 0 where
  pub name : List ℕ
  pub kind : SectionKind
  pub share : Share
  pub align : ℕ
  pub total : ℕ

-- a section: the bytes that it begins with, and its fixups in address order
pub record DescribedSection : Type 0 where
  pub header : DescribedHeader
  pub image : List ℕ
  pub fixups : List Fixup

-- a library to import from (PEFImportedLibrary)
pub record DescribedLibrary : Type 0 where
  pub name : List ℕ
  pub current : ℕ
  pub old_imp : ℕ
  pub options : LibraryOptions

-- an import and an export, by what a script says of them
abbrev pub described_import : List ℕ → SymbolClass → Bool → ℕ → Import
described_import name class weak library = record { fields = record { class = class_code class; weak = weak }; name = name; library = library }

abbrev pub described_export : List ℕ → SymbolClass → ℤ → ℕ → Export
described_export name class section value = record { fields = record { class = class_code class; section = section; value = value }; name = name }

-- a whole script; main, init and term are a section, by its number, and an offset in it
pub record DescribedScript : Type 0 where
  pub versions : Versions
  pub libraries : List DescribedLibrary
  pub imports : List Import
  pub sections : List DescribedSection
  pub exports : List Export
  pub main : Option (ℕ × ℕ)
  pub init : Option (ℕ × ℕ)
  pub term : Option (ℕ × ℕ)

-- the names of a script, of each kind

abbrev pub library_names : DescribedScript → List (List ℕ)
library_names script = map (λ library. library.name) script.libraries

abbrev pub import_names : DescribedScript → List (List ℕ)
import_names script = map (λ symbol. symbol.name) script.imports

abbrev pub section_names : DescribedScript → List (List ℕ)
section_names script = map (λ section. section.header.name) script.sections

abbrev pub export_names : DescribedScript → List (List ℕ)
export_names script = map (λ symbol. symbol.name) script.exports

-- the bytes of names, counting one more for each
abbrev pub bytes_of_names : List (List ℕ) → ℕ
bytes_of_names names = sum_by (λ name. length name + 1) names

-- the bytes of the names of the libraries, the imports and the exports, counting one more for each
abbrev pub name_bytes : DescribedScript → ℕ
name_bytes s = bytes_of_names (library_names s) + bytes_of_names (import_names s) + bytes_of_names (export_names s)
