-- Which bytes are a loader section and what it consists of, or the first rule that they break (Mac OS Runtime
-- Architectures, "PEF Structure", "Loader Section").
use Rattle.std.specs.Prelude.{◌≡◌, ℕ, Bool, not, List, [], ◌∷◌, length, Option, None, Some, Result, Ok, Err, nat_lt, if◌then◌else◌}
use Rattle.std.specs.Option.{option_map_or}
use Rattle.pef_words.specs.Refusals.{first_among, first_met, unless}
use Rattle.pef_hash.specs.Exports.{export_named}
use Rattle.pef_loader.specs.declared.header.EntryKind.TheVariants.{Main, Init, Term}
use Rattle.pef_loader.specs.declared.header.LoaderHeader.{LoaderHeader}
use Rattle.pef_loader.specs.declared.fault.LoaderFault.{LoaderFault}
use Rattle.pef_loader.specs.declared.fault.LoaderFault.TheVariants.{LoaderShort, BadTableOffset, BadEntry, BadExportTable}
use Rattle.pef_loader.specs.Header.{entry_of, header_of, is_entry, tables_end}
use Rattle.pef_loader.specs.Library.{Library, library_in, library_refusal}
use Rattle.pef_format.specs.Symbols.{Import}
use Rattle.pef_loader.specs.Import.{import_in, import_refusal}
use Rattle.pef_loader.specs.Reloc.{reloc_in, reloc_refusal}
use Rattle.pef_format.specs.Exports.{Export}
use Rattle.pef_loader.specs.Export.{export_in, export_refusal, export_table, has_exports}

-- a loader section of a container, rows of which may name this many sections, the instantiated ones: its bytes and its header
pub record Loaded : Type 0 where
  pub sections : ℕ
  pub bytes : List ℕ
  pub header : LoaderHeader

-- a fault, if a test is met
abbrev pub fault_if : Bool → LoaderFault → Option LoaderFault
fault_if test fault = if test then Some fault else None

-- the tests of the entry points, in order: each is missing, or is in an instantiated section
unfoldable pub entry_tests : ℕ → LoaderHeader → List (Bool × LoaderFault)
entry_tests sections h = (not (is_entry sections h.main_section), BadEntry Main)
    ∷ (not (is_entry sections h.init_section), BadEntry Init)
    ∷ (not (is_entry sections h.term_section), BadEntry Term)
    ∷ []

-- with a header: the first rule that is broken, by the length of the tables, the libraries, the imports, the entry
-- points, the relocation headers and the exports in turn
abbrev pub judged : ℕ → List ℕ → LoaderHeader → Result Loaded LoaderFault
judged sections bytes h =
    unless (fault_if (nat_lt (length bytes) (tables_end h)) BadTableOffset)
    (unless (first_among (library_refusal bytes h) 0 h.library_count)
    (unless (first_among (import_refusal bytes h) 0 h.import_count)
    (unless (first_met (entry_tests sections h))
    (unless (first_among (reloc_refusal bytes h sections) 0 h.reloc_count)
    (unless (fault_if (not (has_exports bytes h)) BadExportTable)
    (unless (first_among (export_refusal bytes h sections) 0 h.export_count)
    (Ok (record { sections = sections; bytes = bytes; header = h }))))))))

-- the first rule that the bytes break, or what the loader section consists of
unfoldable pub loaded_of : ℕ → List ℕ → Result Loaded LoaderFault
loaded_of sections bytes = option_map_or (judged sections bytes) (header_of bytes) (Err LoaderShort)

-- the loader section is what its bytes are read as
abbrev pub IsLoader : Loaded → Type 0
IsLoader l = loaded_of l.sections l.bytes ≡ Ok l

-- the parts of a loader section, or none past the last one of each kind
unfoldable pub library_of : Loaded → ℕ → Option Library
library_of l i = library_in l.bytes l.header i

unfoldable pub import_of : Loaded → ℕ → Option Import
import_of l j = import_in l.bytes l.header j

unfoldable pub reloc_of : Loaded → ℕ → Option (ℕ × List ℕ)
reloc_of l k = reloc_in l.bytes l.header k

unfoldable pub export_of : Loaded → ℕ → Option Export
export_of l i = export_in l.bytes l.header i

-- the section and offset of the main entry point, the initialization routine and the termination routine
abbrev pub main_of : Loaded → Option (ℕ × ℕ)
main_of l = entry_of l.header.main_section l.header.main_offset

abbrev pub init_of : Loaded → Option (ℕ × ℕ)
init_of l = entry_of l.header.init_section l.header.init_offset

abbrev pub term_of : Loaded → Option (ℕ × ℕ)
term_of l = entry_of l.header.term_section l.header.term_offset

-- the first export with a name
unfoldable pub named_of : Loaded → List ℕ → Option ℕ
named_of l name = export_named (export_table l.bytes l.header) name
