-- The effect of the relocation headers of a loader section on a section's memory, and which header is
-- refused first (Mac OS Runtime Architectures, "PEF Structure", the relocation headers table;
-- PEFBinaryFormat.h, PEFLoaderRelocationHeader). A header is the number of a section, and the bytes of a
-- program.
use Rattle.std.specs.Prelude.{◌≢◌, ℕ, zero, suc, ◌+◌, ◌==◌, List, Option, None, Some, if◌then◌else◌}
use Rattle.std.specs.Option.{option_and_then}
use Rattle.pef_words.specs.Refusals.{first_among}
use Rattle.pef_reloc.specs.declared.fault.RelocFault.{RelocFault}
use Rattle.pef_reloc.specs.Applied.{Addresses, Done, relocation, then_done, unless_refused}
use Rattle.pef_reloc.specs.Unrolled.{program_fault, steps_of}

-- nothing is done
abbrev pub untouched : List ℕ → Done RelocFault
untouched memory = record { memory = memory; fault = None }

-- memory relocated by a program, if the bytes are one
abbrev pub program_done : Addresses → List ℕ → List ℕ → Done RelocFault
program_done a bytes memory = unless_refused (program_fault bytes) memory (relocation bytes a memory)

-- memory of section k relocated by a header, if there is one and it is for that section
abbrev pub header_done : Addresses → ℕ → Option (ℕ × List ℕ) → List ℕ → Done RelocFault
header_done a k None memory = untouched memory
header_done a k (Some header) memory = if header.0 == k then program_done a header.1 memory else untouched memory

-- memory of section k relocated by the n headers from a number on, in order
unfoldable pub relocated_by : Addresses → ℕ → (ℕ → Option (ℕ × List ℕ)) → ℕ → ℕ → List ℕ → Done RelocFault
relocated_by a k header from zero memory = untouched memory
relocated_by a k header from (suc n) memory = then_done (header_done a k (header from) memory) (relocated_by a k header (from + 1) n)

-- why header i is refused, with its section's memory as the headers before it leave it; each section's
-- memory is given as it was before all headers
unfoldable pub refusal_at : Addresses → (ℕ → List ℕ) → (ℕ → Option (ℕ × List ℕ)) → ℕ → Option RelocFault
refusal_at a memory header i = option_and_then (λ h. (program_done a h.1 (relocated_by a h.0 header 0 i (memory h.0)).memory).fault) (header i)

-- the first refusal among n headers, in their order, for any section
abbrev pub first_refusal : Addresses → (ℕ → List ℕ) → (ℕ → Option (ℕ × List ℕ)) → ℕ → Option RelocFault
first_refusal a memory header n = first_among (refusal_at a memory header) 0 n

-- the steps of a program and those after it, if the bytes are one: programs after one that can't be read aren't reached
abbrev pub steps_and : List ℕ → ℕ → Option RelocFault → ℕ
steps_and bytes more None = steps_of bytes + more
steps_and bytes more (Some fault) = 0

abbrev pub header_steps : Option (ℕ × List ℕ) → ℕ → ℕ
header_steps None more = 0
header_steps (Some header) more = steps_and header.1 more (program_fault header.1)

-- the steps that the programs of the n headers from a number on take, up to the first that can't be read
abbrev pub steps_by : (ℕ → Option (ℕ × List ℕ)) → ℕ → ℕ → ℕ
steps_by header from zero = 0
steps_by header from (suc n) = header_steps (header from) (steps_by header (from + 1) n)

-- no header, or one for another section
abbrev pub IsOther : ℕ → Option (ℕ × List ℕ) → Type 0
IsOther k None = Unit {0}
IsOther k (Some header) = header.0 ≢ k
