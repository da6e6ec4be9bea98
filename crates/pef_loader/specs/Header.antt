-- The loader header, and where the tables after it are (Mac OS Runtime Architectures, "PEF Structure", "Loader
-- Section"; PEFLoaderInfoHeader of PEFBinaryFormat.h).
use Rattle.std.specs.Prelude.{ℕ, ℤ, true, ◌+◌, ◌*◌, ◌&&◌, Bool, List, Option, Some, nat_lt, option_map}
use Rattle.std.specs.Int.{w32}
use Rattle.std.specs.Option.{option_map_or}
use Rattle.pef_format.specs.Entries.{entry_point, is_entry_section}
use Rattle.pef_words.specs.Bytes.{number_at, signed_at}
use Rattle.pef_words.specs.Refusals.{◌>>=◌}
use Rattle.pef_loader.specs.declared.header.LoaderHeader.{LoaderHeader}

-- the header of a loader section, or none if there are fewer than 56 bytes
unfoldable pub header_of : List ℕ → Option LoaderHeader
header_of bytes = do
  main ← signed_at w32 4 bytes 0
  main_offset ← number_at 4 bytes 4
  init ← signed_at w32 4 bytes 8
  init_offset ← number_at 4 bytes 12
  term ← signed_at w32 4 bytes 16
  term_offset ← number_at 4 bytes 20
  libraries ← number_at 4 bytes 24
  imports ← number_at 4 bytes 28
  relocs ← number_at 4 bytes 32
  instructions ← number_at 4 bytes 36
  strings ← number_at 4 bytes 40
  hash ← number_at 4 bytes 44
  power ← number_at 4 bytes 48
  exports ← number_at 4 bytes 52
  Some (record {
    main_section = main;
    main_offset = main_offset;
    init_section = init;
    init_offset = init_offset;
    term_section = term;
    term_offset = term_offset;
    library_count = libraries;
    import_count = imports;
    reloc_count = relocs;
    reloc_instr_offset = instructions;
    strings_offset = strings;
    export_hash_offset = hash;
    export_power = power;
    export_count = exports;
  })

-- where library i begins: after the header of 56 bytes, and each library has 24
abbrev pub library_place : ℕ → ℕ
library_place i = 56 + 24 * i

-- where import j begins: after the libraries, and each import has 4 bytes
abbrev pub imports_from : LoaderHeader → ℕ
imports_from h = library_place h.library_count

abbrev pub import_place : LoaderHeader → ℕ → ℕ
import_place h j = imports_from h + 4 * j

-- where relocation header k begins: after the imports, and each relocation header has 12 bytes
abbrev pub relocs_from : LoaderHeader → ℕ
relocs_from h = import_place h h.import_count

abbrev pub reloc_place : LoaderHeader → ℕ → ℕ
reloc_place h k = relocs_from h + 12 * k

-- where the tables end
abbrev pub tables_end : LoaderHeader → ℕ
tables_end h = reloc_place h h.reloc_count

-- an entry point is missing, or is in an instantiated section
abbrev pub is_entry : ℕ → ℤ → Bool
is_entry sections section = is_entry_section section && option_map_or (λ e. nat_lt e.section sections) (entry_point section 0) true

-- the section and offset of an entry point, or none if it is missing
abbrev pub entry_of : ℤ → ℕ → Option (ℕ × ℕ)
entry_of section offset = option_map (λ e. (e.section, e.offset)) (entry_point section offset)
