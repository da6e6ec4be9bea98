-- A fragment in memory: its instantiated sections, which have some places, are filled, then relocated by
-- its relocation headers, one after another; and its entry points (Mac OS Runtime Architectures, "PEF
-- Structure").
use Rattle.std.specs.Prelude.{ℕ, ◌+◌, ◌%◌, ◌^◌, List, Option, map, option_map}
use Rattle.std.specs.Option.{option_and_then}
use Rattle.cfm_memory.specs.Extents.{place_at}
use Rattle.cfm_memory.specs.declared.place.Place.{Place}
use Rattle.pef_loader.specs.Loader.{Loaded, reloc_of}
use Rattle.pef_loader.specs.Programs.{fault_in_program}
use Rattle.pef_loader.specs.declared.program_fault.ProgramFault.{ProgramFault}
use Rattle.pef_reloc.specs.Applied.{Addresses}
use Rattle.pef_reloc.specs.Headers.{refusal_at, relocated_by}
use Rattle.pef_views.specs.Container.{Contained}
use Rattle.pef_words.specs.Refusals.{first_among}
use Rattle.cfm_sections.specs.Images.{filled_at}
use Rattle.cfm_sections.specs.declared.relocation.HeaderFault.{HeaderFault}

-- the addresses of a fragment's sections, which have some places, and of the targets of its imports
abbrev pub addresses_at : List Place → List ℕ → Addresses
addresses_at places imports = record { sections = map (λ p. p.address) places; imports = imports }

-- the address of an entry, given by its section and the offset in it
abbrev pub entry_address : List Place → Option (ℕ × ℕ) → Option ℕ
entry_address places entry = option_map (λ e. ((place_at places e.0).address + e.1) % 2 ^ 32) entry

-- the memory of section k under some addresses: filled, then relocated by the relocation headers
abbrev pub prepared_at : Contained → Loaded → Addresses → ℕ → List ℕ
prepared_at c l a k = (relocated_by a k (reloc_of l) 0 l.header.reloc_count (filled_at c k)).memory

-- why relocation header i is refused, with its section; each section's memory is given as it was before all headers
abbrev pub header_refusal : Addresses → (ℕ → List ℕ) → (ℕ → Option (ℕ × List ℕ)) → ℕ → Option HeaderFault
header_refusal a memory header i = option_and_then (λ h. option_map (λ f. record { header = i; section = h.0; fault = f }) (refusal_at a memory header i)) (header i)

-- the first refusal among n headers, in their order, for any section
abbrev pub first_header_refusal : Addresses → (ℕ → List ℕ) → (ℕ → Option (ℕ × List ℕ)) → ℕ → Option HeaderFault
first_header_refusal a memory header n = first_among (header_refusal a memory header) 0 n

-- the first refusal among the relocation headers of a container, under some addresses, with its place
abbrev pub first_reloc_refusal : Contained → Loaded → Addresses → Option ProgramFault
first_reloc_refusal c l a = option_map (λ h. fault_in_program c h.header h.section h.fault) (first_header_refusal a (filled_at c) (reloc_of l) l.header.reloc_count)
