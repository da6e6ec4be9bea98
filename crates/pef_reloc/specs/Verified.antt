-- Why relocation is refused, by sizes alone: how many sections and imports there are, and how long the memory is. Neither
-- addresses nor the contents of memory matter.
use Rattle.std.specs.Prelude.{ℕ, ◌+◌, Bool, false, not, nat_lt, nat_le, if◌then◌else◌, List, [], ◌∷◌, length, Option, None, Some}
use Rattle.std.specs.Option.{option_map, option_or}
use Rattle.pef_reloc.specs.declared.fault.RelocFault.{RelocFault}
use Rattle.pef_reloc.specs.declared.fixup.Base.{Base}
use Rattle.pef_reloc.specs.declared.fixup.Base.TheVariants.{Section, Import}
use Rattle.pef_reloc.specs.declared.stop.Stop.{Stop}
use Rattle.pef_reloc.specs.declared.stop.Stop.TheVariants.{PastEnd, NoImport, NoSection}
use Rattle.pef_reloc.specs.declared.verifying.Sizes.{Sizes}
use Rattle.pef_reloc.specs.Applied.{Addresses, fault_at}
use Rattle.pef_reloc.specs.Steps.{Act, State, add, need, acts_of, next_state, start}
use Rattle.pef_reloc.specs.Unrolled.{Step, instrs_of, program_fault, unrolled}

-- the sizes of addresses and of memory
abbrev pub sizes_of : Addresses → ℕ → Sizes
sizes_of a len = record { sections = length a.sections; imports = length a.imports; memory = len }

-- an import that doesn't exist
abbrev pub is_absent : Sizes → Base → Bool
is_absent z (Section k) = false
is_absent z (Import j) = not (nat_lt j z.imports)

-- why an act is refused
abbrev pub act_stop : Sizes → Act → Option Stop
act_stop z (need position k) = if nat_lt k z.sections then None else Some (NoSection position)
act_stop z (add x) = if is_absent z x.base then Some (NoImport x.offset) else if nat_le (x.offset + 4) z.memory then None else Some (PastEnd x.offset)

-- why the first of some acts that is refused is refused
unfoldable pub first_stop : Sizes → List Act → Option Stop
first_stop z [] = None
first_stop z (act ∷ acts) = option_or (act_stop z act) (first_stop z acts)

-- why the first refused instruction of those that are executed from a state is refused
unfoldable pub run_stop : Sizes → List Step → State → Option RelocFault
run_stop z [] s = None
run_stop z (step ∷ steps) s = option_or (option_map (fault_at step.0) (first_stop z (acts_of step.1 s))) (run_stop z steps (next_state step.1 s))

-- why the first refused instruction of the program that the bytes spell is refused
unfoldable pub verified : Sizes → List ℕ → Option RelocFault
verified z bytes = run_stop z (unrolled (instrs_of bytes)) start

-- why a header with these bytes is refused: they aren't a program, or the program is refused
abbrev pub program_verified : Sizes → List ℕ → Option RelocFault
program_verified z bytes = option_or (program_fault bytes) (verified z bytes)
