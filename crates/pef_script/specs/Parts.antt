-- The script that its parts make.
use Rattle.std.specs.Prelude.{ℕ, List, map}
use denote.Ref.{Bor}
use Rattle.pef_script.specs.declared.parts.ExportData.{ExportData}
use Rattle.pef_script.specs.declared.parts.ImportData.{ImportData}
use Rattle.pef_script.specs.declared.parts.LibraryData.{LibraryData}
use Rattle.pef_script.specs.declared.parts.Parts.{Parts}
use Rattle.pef_format.specs.Exports.{Export}
use Rattle.pef_format.specs.Symbols.{Import}
use Rattle.pef_names.specs.declared.name_key.NameKey.{NameKey}
use Rattle.pef_script.specs.Script.{DescribedLibrary, DescribedScript, described_export, described_import}

-- the name and the data of a table's entry
abbrev pub named : {T : Type 0} → NameKey × T → Bor (List ℕ) × T
named e = (e.0.bytes, e.1)

-- a name and the data beside it

abbrev pub library_of : Bor (List ℕ) × LibraryData → DescribedLibrary
library_of e = record { name = e.0.now; current = e.1.current; old_imp = e.1.old_imp; options = e.1.options }

abbrev pub import_of : Bor (List ℕ) × ImportData → Import
import_of e = described_import e.0.now e.1.class e.1.weak e.1.library

abbrev pub export_of : Bor (List ℕ) × ExportData → Export
export_of e = described_export e.0.now e.1.class e.1.section e.1.value

-- the script of some parts
abbrev pub script_in : Parts → DescribedScript
script_in p = record {
  versions = p.versions;
  libraries = map (λ e. library_of (named e)) p.libraries.entries;
  imports = map (λ e. import_of (named e)) p.imports.entries;
  sections = p.sections.items;
  exports = map (λ e. export_of (named e)) p.exports.entries;
  main = p.main;
  init = p.init;
  term = p.term;
}
