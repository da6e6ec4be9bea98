-- Which bytes can be listed (docs/FORMATS.md, "Listings"): a container, its loader section and all its relocation
-- programs are read before the first line is printed.
use Rattle.std.specs.Prelude.{◌≡◌, ℕ, ◌<◌, List, Option, Some, None, option_and_then, option_map, Result, Ok, Err}
use Rattle.pef_words.specs.Refusals.{first_among}
use Rattle.pef_views.specs.Container.{Contained, container_of}
use Rattle.pef_views.specs.declared.fault.ViewFault.{ViewFault}
use Rattle.pef_loader.specs.Faults.{fault_place as loader_fault_place}
use Rattle.pef_loader.specs.Loader.{Loaded, loaded_of, reloc_of}
use Rattle.pef_loader.specs.Programs.{fault_in_program}
use Rattle.pef_loader.specs.declared.fault.LoaderFault.{LoaderFault}
use Rattle.pef_loader.specs.declared.program_fault.ProgramFault.{ProgramFault}
use Rattle.pef_reloc.specs.Unrolled.{program_fault}
use Rattle.pef_listing.specs.declared.fault.ListFault.{ListFault}
use Rattle.pef_listing.specs.declared.fault.ListFault.TheVariants.{View, Loader, Reloc}

-- a container and its loader section
pub record Parts : Type 0 where
  pub container : Contained
  pub loader : Loaded

-- why the program of relocation header k is refused
abbrev pub program_refusal : Contained → Loaded → ℕ → Option ProgramFault
program_refusal c l k = option_and_then (λ r. option_map (fault_in_program c k r.0) (program_fault r.1)) (reloc_of l k)

-- the first refusal of a program
abbrev pub programs_fault : Contained → Loaded → Option ProgramFault
programs_fault c l = first_among (program_refusal c l) 0 l.header.reloc_count

-- each program is readable
abbrev pub AreReadable : Loaded → Type 0
AreReadable l = (k : ℕ) → k < l.header.reloc_count → option_and_then (λ r. program_fault r.1) (reloc_of l k) ≡ None

abbrev pub with_programs : Contained → Loaded → Option ProgramFault → Result Parts ListFault
with_programs c l None = Ok (record { container = c; loader = l })
with_programs c l (Some fault) = Err (Reloc fault)

abbrev pub with_loader : Contained → Result Loaded LoaderFault → Result Parts ListFault
with_loader c (Ok l) = with_programs c l (programs_fault c l)
with_loader c (Err fault) = Err (Loader fault (loader_fault_place c fault))

abbrev pub with_container : Result Contained ViewFault → Result Parts ListFault
with_container (Ok c) = with_loader c (loaded_of c.header.instantiated_section_count c.loader)
with_container (Err fault) = Err (View fault)

-- what the bytes are listed as, or the first refusal: of the container, of its loader section, or of the programs
-- in the order of their headers
unfoldable pub listed_of : List ℕ → Result Parts ListFault
listed_of bytes = with_container (container_of bytes)
