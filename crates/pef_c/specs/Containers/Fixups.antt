-- What `pef_fixups` and `pef_partial_fixups` return and write.
use Rattle.std.specs.Prelude.{◌≡◌, ◌⊎◌, ℕ, List, Option, None, Some, map}
use Rattle.std.specs.Option.{option_and_then}
use Rattle.pef_loader.specs.Loader.{Loaded, reloc_of}
use Rattle.pef_loader.specs.Partial.{relocation_row}
use Rattle.pef_reloc.specs.Faults.{fault_number}
use Rattle.pef_reloc.specs.Traces.{fixups_of}
use Rattle.pef_reloc.specs.Unrolled.{program_fault}
use Rattle.pef_reloc.specs.declared.fault.RelocFault.{RelocFault}
use Rattle.pef_c.specs.Containers.Loaders.{HasTables, IsTablesRefusal}
use Rattle.pef_c.specs.Containers.Partial.{HasPart, IsTablesUnreadable}
use Rattle.pef_records.specs.Buffers.{FillsPart}
use Rattle.pef_records.specs.Containers.Fixups.{FixupRow, fixup_row, fixup_shown}
use Rattle.pef_records.specs.declared.structs.PefFixup.{PefFixup}

-- an error, and nothing is written
pub record IsRefused (old new : List PefFixup) (before after number answer : ℕ) : Type 0 where
  pub places : new ≡ old
  pub count : after ≡ before
  pub number_is : answer ≡ number

-- the additions from a number on are in the first places, and counted
pub record IsFilled (rows : List FixupRow) (from : ℕ) (old new : List PefFixup) (after answer : ℕ) : Type 0 where
  pub filled : FillsPart rows from (map fixup_shown old) (map fixup_shown new) after
  pub number_is : answer ≡ 0

-- what is returned and written for a program: its first error, or its additions
abbrev pub ProgramAnswer : Option RelocFault → List ℕ → ℕ → List PefFixup → List PefFixup → ℕ → ℕ → ℕ → Type 0
ProgramAnswer None program from old new before after answer = IsFilled (map fixup_row (fixups_of program)) from old new after answer
ProgramAnswer (Some fault) program from old new before after answer = IsRefused old new before after (fault_number fault) answer

-- and for a relocation header: 201, if there is no such header
abbrev pub HeaderAnswer : Option (ℕ × List ℕ) → ℕ → List PefFixup → List PefFixup → ℕ → ℕ → ℕ → Type 0
HeaderAnswer None from old new before after answer = IsRefused old new before after 201 answer
HeaderAnswer (Some header) from old new before after answer = ProgramAnswer (program_fault header.1) header.1 from old new before after answer

-- what `pef_fixups` returns and writes: that of the header, if the bytes have tables; otherwise their first error, and nothing is
-- written
abbrev pub FixupsAnswer : List ℕ → ℕ → ℕ → List PefFixup → List PefFixup → ℕ → ℕ → ℕ → Type 0
FixupsAnswer bytes header from old new before after answer =
    ((l : Loaded) × HasTables bytes l × HeaderAnswer (reloc_of l header) from old new before after answer)
    ⊎ ((new ≡ old) × (after ≡ before) × IsTablesRefusal bytes answer)

-- the program of a relocation header, if it is all in the bytes
abbrev pub program_in : Loaded → ℕ → Option (List ℕ)
program_in l header = option_and_then (λ row. row.program) (relocation_row l header)

-- what is returned and written for it: 201, if it isn't
abbrev pub PartProgramAnswer : Option (List ℕ) → ℕ → List PefFixup → List PefFixup → ℕ → ℕ → ℕ → Type 0
PartProgramAnswer None from old new before after answer = IsRefused old new before after 201 answer
PartProgramAnswer (Some program) from old new before after answer = ProgramAnswer (program_fault program) program from old new before after answer

-- what `pef_partial_fixups` returns and writes: that of the header, if the bytes have a loader header; otherwise the reason why
-- nothing can be read, and nothing is written
abbrev pub PartFixupsAnswer : List ℕ → ℕ → ℕ → List PefFixup → List PefFixup → ℕ → ℕ → ℕ → Type 0
PartFixupsAnswer bytes header from old new before after answer =
    ((l : Loaded) × HasPart bytes l × PartProgramAnswer (program_in l header) from old new before after answer)
    ⊎ ((new ≡ old) × (after ≡ before) × IsTablesUnreadable bytes answer)
