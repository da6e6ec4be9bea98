-- How the code's registers, which hold addresses, relate to the model's, which hold numbers of
-- sections.
use Rattle.std.specs.Prelude.{◌≡◌, ◌≤◌, ℕ, ◌+◌, ◌^◌, max, List, [], ◌∷◌, Option, None, Some}
use Rattle.pef_reloc.specs.declared.fault.RelocFault.{RelocFault}
use Rattle.pef_reloc.specs.declared.machine.Targets.{Targets}
use Rattle.pef_reloc.specs.declared.fixup.Base.TheVariants.{Section}
use Rattle.pef_reloc.specs.declared.instr.Instr.{Instr}
use Rattle.pef_reloc.specs.declared.stop.Stop.{Stop}
use Rattle.pef_reloc.specs.declared.machine.Machine.{Machine}
use Rattle.pef_reloc.specs.Steps.{State, need, acts_of, next_state, state_after}
use Rattle.pef_reloc.specs.Applied.{Addresses, address_of, ran}
use Rattle.pef_reloc.specs.Unrolled.{Step, instrs_in}
use Rattle.pef_reloc.specs.Kept.Rows.{Does}

-- the addresses that the code knows
abbrev pub known : Targets → Addresses
known t = record { sections = t.sections.now; imports = t.imports.now }

-- the registers of the code hold the addresses of those of the model
pub record Holds (a : Addresses) (m : Machine) (s : State) : Type 0 where
  pub position_is : m.position ≡ s.position
  pub import_is : m.import_index ≡ s.import_index
  pub c_is : m.section_c ≡ address_of a (Section s.c)
  pub d_is : m.section_d ≡ address_of a (Section s.d)

-- memory and the registers after an instruction, from each state that the registers hold
pub record Stepped (a : Addresses) (old new : Machine) (before now : List ℕ) (instr : Instr) (answer : Option Stop) : Type 0 where
  pub does : (s : State) → Holds a old s → Does a before now (acts_of instr s) answer
  pub holds : (s : State) → Holds a old s → answer ≡ None → Holds a new (next_state instr s)

-- memory and the registers after a list of instructions, from each state that the registers hold
pub record Runs (a : Addresses) (old new : Machine) (before now : List ℕ) (steps : List Step) (answer : Option RelocFault) : Type 0 where
  pub does : (s : State) → Holds a old s → ran a steps s before ≡ record { memory = now; fault = answer }
  pub holds : (s : State) → Holds a old s → answer ≡ None → Holds a new (state_after (instrs_in steps) s)

-- the registers after an operation that leaves them unchanged if it is refused
abbrev pub machine_after : Option Stop → Machine → Machine → Machine
machine_after None old new = new
machine_after (Some stop) old new = old

-- neither register is further on than that
pub record Moves (old new : Machine) (by : ℕ) : Type 0 where
  pub position : new.position ≤ max old.position (2 ^ 26) + by
  pub imports : new.import_index ≤ max old.import_index (2 ^ 26) + by

-- both registers are far from wrapping
pub record Near (m : Machine) (room : ℕ) : Type 0 where
  pub position : m.position ≤ 2 ^ 63 + room
  pub imports : m.import_index ≤ 2 ^ 63 + room

-- a section becomes section C or D, if it exists
pub record SetsC (a : Addresses) (old new : Machine) (section : ℕ) (answer : Option Stop) : Type 0 where
  pub does : (memory : List ℕ) → Does a memory memory (need old.position section ∷ []) answer
  pub after : new ≡ machine_after answer old (record old { section_c = address_of a (Section section) })

pub record SetsD (a : Addresses) (old new : Machine) (section : ℕ) (answer : Option Stop) : Type 0 where
  pub does : (memory : List ℕ) → Does a memory memory (need old.position section ∷ []) answer
  pub after : new ≡ machine_after answer old (record old { section_d = address_of a (Section section) })
