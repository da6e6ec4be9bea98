-- What holds for every script: its names, its limits, and that it refers only to sections, libraries, imports
-- and offsets that exist (docs/SCRIPTS.md, "Lines" and "Limits").
use Rattle.std.specs.Prelude.{◌≡◌, ℕ, ◌<◌, ◌≤◌, true, List, [], ◌∷◌, Option, None, Some, length, map, slice_index}
use Rattle.std.specs.List.{AllByRecursion, IsDistinct, list_all}
use Rattle.std.specs.Str.{bytes_eq}
use Rattle.pef_format.specs.declared.export.ExportValue.{ExportValue}
use Rattle.pef_format.specs.declared.export.ExportValue.TheVariants.{Absolute, InSection, Reexport}
use Rattle.pef_format.specs.Exports.{Export, is_export_section, value_of}
use Rattle.pef_format.specs.Sections.{is_instantiable, is_named_share}
use Rattle.pef_format.specs.Symbols.{Import, is_class}
use Rattle.pef_reloc.specs.declared.fixup.Base.{Base}
use Rattle.pef_reloc.specs.declared.fixup.Base.TheVariants as base
use Rattle.pef_reloc.specs.declared.fixup.Fixup.{Fixup}
use Rattle.pef_reloc.specs.Fixups.{fixups_fit, fixups_end}
use Rattle.pef_reloc.specs.Limits.{most_imports, most_sections}
use Rattle.pef_script.specs.Limits.{greatest_align, greatest_number, greatest_total, longest_name, most_exports, most_libraries, most_name_bytes}
use Rattle.pef_script.specs.declared.parts.Versions.{Versions}
use Rattle.pef_script.specs.Script.{DescribedLibrary, DescribedSection, DescribedScript, name_bytes}
use Rattle.pef_lines.specs.Words.{is_printing}

-- a name has 1 to 255 bytes, each from 21 to 7E (hex)
pub record IsName (name : List ℕ) : Type 0 where
  pub least : 1 ≤ length name
  pub most : length name ≤ longest_name
  pub bytes : list_all is_printing name ≡ true

-- each number is at most those after it
abbrev pub Rises : List ℕ → Type 0
Rises [] = Unit {0}
Rises (x ∷ xs) = AllByRecursion (λ y. x ≤ y) xs × Rises xs

pub record VersionsHold (v : Versions) : Type 0 where
  pub current : v.current ≤ greatest_number
  pub old_def : v.old_def ≤ greatest_number
  pub old_imp : v.old_imp ≤ greatest_number

pub record LibraryHolds (l : DescribedLibrary) : Type 0 where
  pub name : IsName l.name
  pub current : l.current ≤ greatest_number
  pub old_imp : l.old_imp ≤ greatest_number

pub record LibrariesHold (libraries : List DescribedLibrary) : Type 0 where
  pub count : length libraries ≤ most_libraries
  pub each : AllByRecursion LibraryHolds libraries
  pub apart : IsDistinct bytes_eq (map (λ library. library.name) libraries)

-- an import among this many libraries
pub record ImportHolds (libraries : ℕ) (i : Import) : Type 0 where
  pub name : IsName i.name
  pub class : is_class i.fields.class ≡ true
  pub library : i.library < libraries

-- imports are in the order of their libraries
pub record ImportsHold (libraries : ℕ) (imports : List Import) : Type 0 where
  pub count : length imports ≤ most_imports
  pub each : AllByRecursion (ImportHolds libraries) imports
  pub apart : IsDistinct bytes_eq (map (λ symbol. symbol.name) imports)
  pub grouped : Rises (map (λ symbol. symbol.library) imports)

-- the section or the import of a base exists
abbrev pub BaseThere : ℕ → ℕ → Base → Type 0
BaseThere sections imports (base.Section k) = k < sections
BaseThere sections imports (base.Import j) = j < imports

-- a section among this many sections and imports
pub record SectionHolds (sections imports : ℕ) (s : DescribedSection) : Type 0 where
  pub name : IsName s.header.name
  pub kind : is_instantiable s.header.kind ≡ true
  pub share : is_named_share s.header.share ≡ true
  pub align : s.header.align ≤ greatest_align
  pub total : s.header.total ≤ greatest_total
  pub image : length s.image ≤ s.header.total
  pub fixups : fixups_fit s.fixups ≡ true
  pub inside : fixups_end 0 s.fixups ≤ s.header.total
  pub bases : AllByRecursion (λ (fixup : Fixup). BaseThere sections imports fixup.base) s.fixups

pub record SectionsHold (imports : ℕ) (sections : List DescribedSection) : Type 0 where
  pub count : length sections ≤ most_sections
  pub each : AllByRecursion (SectionHolds (length sections) imports) sections
  pub apart : IsDistinct bytes_eq (map (λ section. section.header.name) sections)

-- how many bytes each section has
abbrev pub totals_of : List DescribedSection → List ℕ
totals_of sections = map (λ section. section.header.total) sections

-- an offset in section k, or at its end, if these are the lengths of the sections
pub record PlaceHolds (totals : List ℕ) (k offset : ℕ) : Type 0 where
  pub there : k < length totals
  pub inside : offset ≤ slice_index totals k

-- the section or the import of an export exists, if these are the lengths of the sections and there are this
-- many imports
abbrev pub ValueHolds : List ℕ → ℕ → ExportValue → Type 0
ValueHolds totals imports (InSection k offset) = PlaceHolds totals k offset
ValueHolds totals imports (Absolute value) = value ≤ greatest_number
ValueHolds totals imports (Reexport import) = import < imports

pub record ExportHolds (totals : List ℕ) (imports : ℕ) (e : Export) : Type 0 where
  pub name : IsName e.name
  pub class : is_class e.fields.class ≡ true
  pub section : is_export_section e.fields.section ≡ true
  pub value : ValueHolds totals imports (value_of e.fields.section e.fields.value)

pub record ExportsHold (totals : List ℕ) (imports : ℕ) (exports : List Export) : Type 0 where
  pub count : length exports ≤ most_exports
  pub each : AllByRecursion (ExportHolds totals imports) exports
  pub apart : IsDistinct bytes_eq (map (λ symbol. symbol.name) exports)

-- an entry is in a section, if there is one
abbrev pub EntryHolds : List ℕ → Option (ℕ × ℕ) → Type 0
EntryHolds totals None = Unit {0}
EntryHolds totals (Some entry) = PlaceHolds totals entry.0 entry.1

pub record ScriptHolds (s : DescribedScript) : Type 0 where
  pub versions : VersionsHold s.versions
  pub libraries : LibrariesHold s.libraries
  pub imports : ImportsHold (length s.libraries) s.imports
  pub sections : SectionsHold (length s.imports) s.sections
  pub exports : ExportsHold (totals_of s.sections) (length s.imports) s.exports
  pub main : EntryHolds (totals_of s.sections) s.main
  pub init : EntryHolds (totals_of s.sections) s.init
  pub term : EntryHolds (totals_of s.sections) s.term
  pub names : name_bytes s ≤ most_name_bytes
