-- What is found in a container that may be damaged is all that is wrong with it: each rule that a field, a row, packed data or a
-- program breaks has its error, whatever else is broken.
use Rattle.std.specs.Prelude.{◌≡◌, ◌<◌, ◌≤◌, ℕ, suc, Bool, true, false, List, length, Option, None, Some, Ok, Err, nat_le}
use Rattle.std.specs.List.{Contains}
use Rattle.pef_format.specs.Sections.{is_packed, kind_of}
use Rattle.pef_views.specs.Container.{Contained, loader_of}
use Rattle.pef_views.specs.Header.{field_tests}
use Rattle.pef_views.specs.Partial as views
use Rattle.pef_views.specs.Section.{raw_of}
use Rattle.pef_views.specs.declared.fault.ViewFault.{ViewFault}
use Rattle.pef_views.specs.declared.fault.ViewFault.TheVariants.{NoLoader}
use Rattle.pef_views.specs.declared.section.SectionHeader.{SectionHeader}
use Rattle.pef_loader.specs.Export.{has_exports}
use Rattle.pef_loader.specs.Header.{imports_from, relocs_from, tables_end}
use Rattle.pef_loader.specs.Loader.{Loaded, entry_tests}
use Rattle.pef_loader.specs.Partial as loader
use Rattle.pef_loader.specs.declared.fault.LoaderFault.{LoaderFault}
use Rattle.pef_loader.specs.declared.fault.LoaderFault.TheVariants.{BadExportTable, BadTableOffset}
use Rattle.pef_pidata.specs.Pattern.{pattern_text}
use Rattle.pef_pidata.specs.declared.fault.PackFault.{PackFault}
use Rattle.pef_reloc.specs.Unrolled.{program_fault}
use Rattle.pef_reloc.specs.Verified.{verified}
use Rattle.pef_reloc.specs.declared.fault.RelocFault.{RelocFault}
use Rattle.pef_reloc.specs.declared.verifying.Sizes.{Sizes}
use Rattle.pef_inspect.specs.Errors.{errors_within, image_cost, program_cost, run_cost, sizes_at}
use Rattle.pef_inspect.specs.Findings.{image_finding, loader_finding, program_finding, view_finding}
use Rattle.pef_inspect.specs.Limits.{total}
use Rattle.pef_inspect.specs.declared.finding.Finding.{Finding}
use Rattle.pef_inspect.specs.declared.limits.Limits.{Limits}

-- one of these rules is broken, and this is its error
abbrev pub Breaks : {F : Type 0} → List (Bool × F) → F → Type 0
Breaks tests fault = Contains tests (true, fault)

-- a row of a table, of which there are so many, can be read and breaks a rule
pub record IsBadRow {F : Type 0} (count : ℕ) (rows : ℕ → Option (List (Bool × F))) (i : ℕ) (fault : F) : Type 0 where
  pub below : i < count
  pub tests : List (Bool × F)
  pub there : rows i ≡ Some tests
  pub broken : Breaks tests fault

-- each rule that is broken by a field of the header, by a section whose header is there, and by the lack of a loader section
pub record HasContainerErrors (c : Contained) (found : List Finding) : Type 0 where
  pub header : (fault : ViewFault) → Breaks (field_tests c.header (length c.bytes)) fault → Contains found (view_finding fault)
  pub sections : (i : ℕ) (fault : ViewFault) → IsBadRow c.header.section_count (views.tests_of_section c) i fault → Contains found (view_finding fault)
  pub loader : loader_of c.bytes c.header ≡ None → Contains found (view_finding NoLoader)

-- if a table is there as a whole, each rule that one of its rows breaks has its error
abbrev pub HasTableErrors : Contained → List Finding → Bool → ℕ → (ℕ → Option (List (Bool × LoaderFault))) → Type 0
HasTableErrors c found whole count rows = (i : ℕ) (fault : LoaderFault) → whole ≡ true → IsBadRow count rows i fault → Contains found (loader_finding c fault)

-- each rule that is broken by a loader section with a header. The rows of a table that passes the end aren't looked at, as one of the
-- counts is wrong then: that has an error itself
pub record HasLoaderErrors (c : Contained) (l : Loaded) (found : List Finding) : Type 0 where
  pub tables : length l.bytes < tables_end l.header → Contains found (loader_finding c BadTableOffset)
  pub libraries : HasTableErrors c found (nat_le (imports_from l.header) (length l.bytes)) l.header.library_count (loader.tests_of_library l)
  pub imports : HasTableErrors c found (nat_le (relocs_from l.header) (length l.bytes)) l.header.import_count (loader.tests_of_import l)
  pub entries : (fault : LoaderFault) → Breaks (entry_tests l.sections l.header) fault → Contains found (loader_finding c fault)
  pub relocations : HasTableErrors c found (nat_le (tables_end l.header) (length l.bytes)) l.header.reloc_count (loader.tests_of_relocation l)
  pub export_table : has_exports l.bytes l.header ≡ false → Contains found (loader_finding c BadExportTable)
  pub exports : HasTableErrors c found (has_exports l.bytes l.header) l.header.export_count (loader.tests_of_export l)

-- section i is instantiated, its packed bytes are there and don't spell an image of its unpackedSize, and the packed bytes up to its own
-- keep the limit
pub record IsBadImage (limits : Limits) (c : Contained) (i : ℕ) (fault : PackFault) : Type 0 where
  pub below : i < c.header.instantiated_section_count
  pub section : SectionHeader
  pub there : views.header_in c i ≡ Some section
  pub packed : is_packed (kind_of section.section_kind) ≡ true
  pub whole : section.packed_size ≤ length (raw_of c.bytes section)
  pub refused : pattern_text (raw_of c.bytes section) section.unpacked_size ≡ Err fault
  pub fits : total (image_cost c) 0 (suc i) ≤ limits.packed_bytes

-- relocation header k has a program, and the programs up to it keep the limit
pub record HasProgram (limits : Limits) (l : Loaded) (k : ℕ) : Type 0 where
  pub row : loader.RelocationRow
  pub is : loader.relocation_row l k ≡ Some row
  pub bytes : List ℕ
  pub there : row.program ≡ Some bytes
  pub fits : total (program_cost l) 0 (suc k) ≤ limits.program_bytes

-- it isn't readable
pub record IsUnreadable (limits : Limits) (l : Loaded) (k : ℕ) (fault : RelocFault) : Type 0 where
  pub program : HasProgram limits l k
  pub refused : program_fault program.bytes ≡ Some fault

-- it is readable, and is refused in its section. The steps of the programs up to it keep their limit, too
pub record IsRefused (limits : Limits) (c : Contained) (l : Loaded) (k : ℕ) (fault : RelocFault) : Type 0 where
  pub program : HasProgram limits l k
  pub readable : program_fault program.bytes ≡ None
  pub sizes : Sizes
  pub known : sizes_at c l program.row.section ≡ Some sizes
  pub refused : verified sizes program.bytes ≡ Some fault
  pub fits : total (run_cost c l) 0 (suc k) ≤ limits.steps

-- each such section, and each such program if the relocation headers are there as a whole
abbrev pub HasImageErrors : Limits → Contained → List Finding → Type 0
HasImageErrors limits c found = (i : ℕ) (fault : PackFault) → IsBadImage limits c i fault → Contains found (image_finding c i fault)

pub record HasProgramErrors (limits : Limits) (c : Contained) (l : Loaded) (found : List Finding) : Type 0 where
  pub unreadable : (k : ℕ) (fault : RelocFault) → tables_end l.header ≤ length l.bytes → IsUnreadable limits l k fault → Contains found (program_finding c k fault)
  pub refused : (k : ℕ) (fault : RelocFault) → tables_end l.header ≤ length l.bytes → IsRefused limits c l k fault → Contains found (program_finding c k fault)

-- the errors of some bytes within any limits have all of these. Bytes without a container's header have one error. So has a loader
-- section without a header, besides those of the container and its packed data
pub record FindsEach : Type 0 where
  pub no_container : (limits : Limits) (bytes : List ℕ) (fault : ViewFault) → views.partial_of bytes ≡ Err fault → Contains (errors_within limits bytes) (view_finding fault)
  pub container : (limits : Limits) (bytes : List ℕ) (c : Contained) → views.partial_of bytes ≡ Ok c → HasContainerErrors c (errors_within limits bytes)
  pub images : (limits : Limits) (bytes : List ℕ) (c : Contained) → views.partial_of bytes ≡ Ok c → HasImageErrors limits c (errors_within limits bytes)
  pub no_loader : (limits : Limits) (bytes : List ℕ) (c : Contained) (raw : List ℕ) (fault : LoaderFault) → views.partial_of bytes ≡ Ok c → views.found_loader c.bytes c.header ≡ Some raw
      → loader.partial_of (views.sections_allowed c) c.loader ≡ Err fault → Contains (errors_within limits bytes) (loader_finding c fault)
  pub tables : (limits : Limits) (bytes : List ℕ) (c : Contained) (raw : List ℕ) (l : Loaded) → views.partial_of bytes ≡ Ok c → views.found_loader c.bytes c.header ≡ Some raw
      → loader.partial_of (views.sections_allowed c) c.loader ≡ Ok l → HasLoaderErrors c l (errors_within limits bytes)
  pub programs : (limits : Limits) (bytes : List ℕ) (c : Contained) (raw : List ℕ) (l : Loaded) → views.partial_of bytes ≡ Ok c → views.found_loader c.bytes c.header ≡ Some raw
      → loader.partial_of (views.sections_allowed c) c.loader ≡ Ok l → HasProgramErrors limits c l (errors_within limits bytes)
