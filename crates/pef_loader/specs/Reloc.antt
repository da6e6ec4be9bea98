-- Relocation headers (Mac OS Runtime Architectures, "PEF Structure", "Relocation Headers Table";
-- PEFLoaderRelocationHeader of PEFBinaryFormat.h).
use Rattle.std.specs.Prelude.{ℕ, ◌+◌, ◌*◌, Bool, List, [], ◌∷◌, Option, Some, None, length, nat_lt, nat_le, if◌then◌else◌}
use Rattle.std.specs.Option.{option_map_or}
use Rattle.pef_words.specs.Bytes.{number_at, part_of}
use Rattle.pef_words.specs.Refusals.{◌>>=◌, first_met}
use Rattle.pef_loader.specs.declared.header.LoaderHeader.{LoaderHeader}
use Rattle.pef_loader.specs.declared.reloc.RelocEntry.{RelocEntry}
use Rattle.pef_loader.specs.declared.fault.LoaderFault.{LoaderFault}
use Rattle.pef_loader.specs.declared.fault.LoaderFault.TheVariants.{BadTableOffset, BadRelocSection, RelocOutside}
use Rattle.pef_loader.specs.Header.{reloc_place}

-- relocation header k, or none if it passes the end
unfoldable pub reloc_at : List ℕ → LoaderHeader → ℕ → Option RelocEntry
reloc_at bytes h k = do
  section ← number_at 2 bytes (reloc_place h k)
  count ← number_at 4 bytes (reloc_place h k + 4)
  first ← number_at 4 bytes (reloc_place h k + 8)
  Some (record { section = section; count = count; first = first })

-- the tests of relocation header k, in order
unfoldable pub reloc_tests : List ℕ → LoaderHeader → ℕ → ℕ → RelocEntry → List (Bool × LoaderFault)
reloc_tests bytes h sections k e = (nat_le sections e.section, BadRelocSection k)
    ∷ (nat_lt (length bytes) (h.reloc_instr_offset + e.first + 2 * e.count), RelocOutside k)
    ∷ []

-- the refusal of relocation header k
abbrev pub reloc_refusal : List ℕ → LoaderHeader → ℕ → ℕ → Option LoaderFault
reloc_refusal bytes h sections k = option_map_or (λ e. first_met (reloc_tests bytes h sections k e)) (reloc_at bytes h k) (Some BadTableOffset)

-- the instructions of a relocation header: its halfwords, at an offset from the first of all instructions
unfoldable pub instructions_of : List ℕ → LoaderHeader → RelocEntry → Option (List ℕ)
instructions_of bytes h e = part_of bytes (h.reloc_instr_offset + e.first) (2 * e.count)

-- the section of relocation header k and its instructions
unfoldable pub reloc_in : List ℕ → LoaderHeader → ℕ → Option (ℕ × List ℕ)
reloc_in bytes h k = if nat_lt k h.reloc_count then (do
  e ← reloc_at bytes h k
  instructions ← instructions_of bytes h e
  Some (e.section, instructions)) else None
