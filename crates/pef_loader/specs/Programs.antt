-- The errors of relocation programs, with the section that a program relocates and the place in the container.
use Rattle.std.specs.Prelude.{ℕ}
use Rattle.std.specs.Option.{unwrap_or}
use Rattle.pef_format.specs.declared.place.Part.TheVariants as part
use Rattle.pef_format.specs.declared.place.Place.{Place}
use Rattle.pef_reloc.specs.Faults.{fault_offset}
use Rattle.pef_reloc.specs.declared.fault.RelocFault.{RelocFault}
use Rattle.pef_views.specs.Container.{Contained}
use Rattle.pef_loader.specs.Places.{place_of}
use Rattle.pef_loader.specs.declared.program_fault.ProgramFault.{ProgramFault}

-- the place of an error of the program of relocation header k: that of its instruction, or that of the program
abbrev pub program_place : Contained → ℕ → RelocFault → Place
program_place c k fault = place_of c part.Program k (unwrap_or (fault_offset fault) 0)

-- an error of the program of header k, which relocates a section
unfoldable pub fault_in_program : Contained → ℕ → ℕ → RelocFault → ProgramFault
fault_in_program c k section fault = record { fault = fault; section = section; place = program_place c k fault }
