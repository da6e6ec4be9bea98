-- A linked container as it is read: the sections and tables of its script (Mac OS Runtime Architectures,
-- "PEF Structure"), with programs that relocate the sections as their fixups say.
use Rattle.std.specs.Prelude.{◌≡◌, ◌≢◌, ℕ, ◌+◌, List, None, Ok, Some, length, map, option_map, slice_get, slice_index_or}
use Rattle.std.specs.Option.{option_and_then}
use Rattle.pef_format.specs.Exports.{Export}
use Rattle.pef_hash.specs.Build.{built}
use Rattle.pef_loader.specs.Loader.{Loaded, export_of, import_of, init_of, library_of, loaded_of, main_of, named_of, reloc_of, term_of}
use Rattle.pef_reloc.specs.Applied.{Addresses, applied, relocated}
use Rattle.pef_reloc.specs.declared.instr.Instr.{Instr}
use Rattle.pef_reloc.specs.Steps.{add}
use Rattle.pef_reloc.specs.Unrolled.{program_fault}
use Rattle.pef_script.specs.Script.{DescribedScript, DescribedSection, export_names}
use Rattle.pef_views.specs.Container.{Contained, container_of, section_of}
use Rattle.pef_write.specs.Containers.{IsSection, loader_header}
use Rattle.pef_write.specs.Linked.{IsLinked, LinkedContainer, linked_library, no_export, programs_from}
use Rattle.pef_write.specs.Loaders.{ProgramEntry}

-- a container with a script's versions and sections, and its loader section after these
pub record HasSections (s : DescribedScript) (c : Contained) : Type 0 where
  pub current : c.header.current_version ≡ s.versions.current
  pub old_def : c.header.old_def_version ≡ s.versions.old_def
  pub old_imp : c.header.old_imp_version ≡ s.versions.old_imp
  pub instantiated : c.header.instantiated_section_count ≡ length s.sections
  pub count : c.header.section_count ≡ length s.sections + 1
  pub each : (k : ℕ) (section : DescribedSection) → slice_get s.sections k ≡ Some section → IsSection c k section
  pub loader : (at : ℕ) × (section_of c (length s.sections) ≡ Some (record { header = loader_header (length c.loader) at; raw = c.loader }))

-- a relocation program as it is read: its section and its instructions
abbrev pub program_read : ProgramEntry → ℕ × List ℕ
program_read p = (p.section, p.bytes)

-- a loader section with a script's entries, libraries, imports and exports, and with relocation headers
-- for the sections that have fixups; the exports are in the order of the export table, and each is found
-- by its name
pub record HasTables (s : DescribedScript) (programs : List (List Instr)) (l : Loaded) : Type 0 where
  pub sections : l.sections ≡ length s.sections
  pub main : main_of l ≡ s.main
  pub init : init_of l ≡ s.init
  pub term : term_of l ≡ s.term
  pub library_count : l.header.library_count ≡ length s.libraries
  pub libraries : (k : ℕ) → library_of l k ≡ option_map (linked_library s.imports k) (slice_get s.libraries k)
  pub import_count : l.header.import_count ≡ length s.imports
  pub imports : (j : ℕ) → import_of l j ≡ slice_get s.imports j
  pub reloc_count : l.header.reloc_count ≡ length (programs_from 0 s.sections programs)
  pub relocs : (i : ℕ) → reloc_of l i ≡ option_map program_read (slice_get (programs_from 0 s.sections programs) i)
  pub export_count : l.header.export_count ≡ length s.exports
  pub exports : (k : ℕ) → export_of l k ≡ option_map (λ e. slice_index_or s.exports e no_export) (slice_get (built (export_names s)).order k)
  pub named : (e : ℕ) (export : Export) → slice_get s.exports e ≡ Some export → option_and_then (export_of l) (named_of l export.name) ≡ Some export
  pub unnamed : (name : List ℕ) → ((e : ℕ) (export : Export) → slice_get s.exports e ≡ Some export → export.name ≢ name) → named_of l name ≡ None

-- the bytes of a linked container are never refused, and are read as this container with this loader
-- section
pub record IsReadBack (s : DescribedScript) (l : LinkedContainer) (linked : IsLinked s l) : Type 0 where
  pub container : Contained
  pub loader : Loaded
  pub read : container_of l.bytes ≡ Ok container
  pub loaded : loaded_of container.header.instantiated_section_count container.loader ≡ Ok loader
  pub sections : HasSections s container
  pub tables : HasTables s linked.programs loader

-- a relocation program of a section is readable. If all sections have addresses, it does the additions of
-- the fixups. If also the targets of the imports have addresses, it isn't refused in the section's memory
pub record Relocates (s : DescribedScript) (section : DescribedSection) (bytes : List ℕ) : Type 0 where
  pub readable : program_fault bytes ≡ None
  pub does : (a : Addresses) (memory : List ℕ) → length a.sections ≡ length s.sections → relocated bytes a memory ≡ applied a (map add section.fixups) memory
  pub unrefused : (a : Addresses) (memory : List ℕ) → length a.sections ≡ length s.sections → length a.imports ≡ length s.imports → length memory ≡ section.header.total
      → (relocated bytes a memory).fault ≡ None

-- a relocation program is that of one of the sections, and relocates it
pub record IsSectionProgram (s : DescribedScript) (p : ProgramEntry) : Type 0 where
  pub section : DescribedSection
  pub there : slice_get s.sections p.section ≡ Some section
  pub relocates : Relocates s section p.bytes
