-- The tables of a loader section, and the values that they are read as.
use Rattle.std.specs.Prelude.{◌≡◌, ◌≢◌, ℕ, ℤ, pos, negsuc, ◌+◌, ◌/◌, ◌^◌, ◌<◌, ◌≤◌, ◌&&◌, Bool, true, Option, None, Some, IfSome, List, Ok, length, nat_le, nat_lt, slice_get}
use Rattle.std.specs.List.{All, AllZip, position}
use Rattle.std.specs.Str.{bytes_eq}
use Rattle.pef_format.specs.Exports.{Export}
use Rattle.pef_format.specs.Symbols.{Import}
use Rattle.pef_loader.specs.declared.header.LoaderHeader.{LoaderHeader}
use Rattle.pef_loader.specs.Export.{has_section}
use Rattle.pef_loader.specs.Library.{Library}
use Rattle.pef_loader.specs.Loader.{Loaded}
use Rattle.pef_reloc.specs.declared.instr.Instr.{Instr}
use Rattle.pef_script.specs.declared.parts.Versions.{Versions}
use Rattle.pef_script.specs.Script.{DescribedScript, DescribedSection}
use Rattle.pef_views.specs.Container.{Contained, container_of, section_of}
use Rattle.pef_write.specs.Containers.{written_container, written_header, written_sections}
use Rattle.pef_write.specs.Linked.{linked_loader}
use Rattle.pef_write.specs.Loaders.{LoaderTables, entry_offset, exports_from, programs_from, strings_from, written_loader}
use Rattle.pef_write.specs.Kept.Fits.{TablesFit}

-- the container of versions, sections and a loader section
abbrev pub contained_in : Versions → List DescribedSection → List ℕ → Contained
contained_in v sections loader = record {
  bytes = written_container v sections loader;
  header = written_header v (length sections);
  loader = loader;
}

-- the container of a script, with programs for its sections
abbrev pub linked_container : DescribedScript → List (List Instr) → Contained
linked_container s programs = contained_in s.versions s.sections (linked_loader s programs)

-- bytes are read as this: the header, the loader section, and each section with its raw bytes
pub record ReadsBack (v : Versions) (own : List DescribedSection) (loader : List ℕ) (bytes : List ℕ) : Type 0 where
  pub container : container_of bytes ≡ Ok (contained_in v own loader)
  pub sections : (k : ℕ) → section_of (contained_in v own loader) k ≡ slice_get (written_sections own loader) k

-- a name without a zero byte
abbrev pub HasNoZero : List ℕ → Type 0
HasNoZero name = All (λ b. b ≢ 0) name

-- import j is one of a library's
abbrev pub has_import : ℕ → Library → Bool
has_import j l = nat_le l.fields.first j && nat_lt j (l.fields.first + l.fields.count)

-- the first of some libraries that has import j
abbrev pub first_owner : List Library → ℕ → Option ℕ
first_owner libraries j = position (has_import j) libraries

-- the first of some exports that has a name
abbrev pub first_named : List Export → List ℕ → Option ℕ
first_named exports name = position (λ e. bytes_eq e.name name) exports

-- an entry's section as it is read, or -1 if it is absent
abbrev pub section_read : Option (ℕ × ℕ) → ℤ
section_read None = negsuc 0
section_read (Some entry) = pos entry.0

-- the header that is read
abbrev pub header_read : LoaderTables → LoaderHeader
header_read t = record {
  main_section = section_read t.main;
  main_offset = entry_offset t.main;
  init_section = section_read t.init;
  init_offset = entry_offset t.init;
  term_section = section_read t.term;
  term_offset = entry_offset t.term;
  library_count = length t.libraries;
  import_count = length t.imports;
  reloc_count = length t.programs;
  reloc_instr_offset = programs_from t;
  strings_offset = strings_from t;
  export_hash_offset = exports_from t;
  export_power = t.power;
  export_count = length t.exports;
}

-- tables of a loader section in a container with this many sections: names end before a zero byte, each import
-- is of the first library that has it, entries and programs are in sections that exist, each export is in a
-- section or of an import that exists, and the export table has its slots, and for each export a key with the
-- length of its name
pub record AreTables (sections : ℕ) (t : LoaderTables) : Type 0 where
  pub fit : TablesFit t
  pub few : sections < 2 ^ 15
  pub main : IfSome t.main (λ entry. entry.0 < sections)
  pub init : IfSome t.init (λ entry. entry.0 < sections)
  pub term : IfSome t.term (λ entry. entry.0 < sections)
  pub library_names : All (λ l. HasNoZero l.name) t.libraries
  pub import_names : All (λ i. HasNoZero i.name) t.imports
  pub ranges : All (λ l. l.fields.first + l.fields.count ≤ length t.imports) t.libraries
  pub owned : (j : ℕ) (i : Import) → slice_get t.imports j ≡ Some i → first_owner t.libraries j ≡ Some i.library
  pub programs : All (λ p. p.section < sections) t.programs
  pub power : t.power ≤ 30
  pub slots : length t.slots ≡ 2 ^ t.power
  pub keys : AllZip (λ key e. key / 2 ^ 16 ≡ length e.name) t.keys t.exports
  pub exports : All (λ e. has_section (header_read t) sections e.fields.value e.fields.section ≡ true) t.exports

-- the loader section that is read, in a container with this many instantiated sections
abbrev pub loaded_tables : ℕ → LoaderTables → Loaded
loaded_tables sections t = record { sections = sections; bytes = written_loader t; header = header_read t }
