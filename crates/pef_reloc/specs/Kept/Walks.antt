-- The registers of a program that is verified.
use Rattle.std.specs.Prelude.{◌≡◌, ◌≤◌, ℕ, ◌+◌, ◌^◌, max, List, Option, None}
use Rattle.pef_reloc.specs.declared.fault.RelocFault.{RelocFault}
use Rattle.pef_reloc.specs.declared.verifying.Sizes.{Sizes}
use Rattle.pef_reloc.specs.declared.verifying.Walk.{Walk}
use Rattle.pef_reloc.specs.Steps.{State, state_after}
use Rattle.pef_reloc.specs.Unrolled.{Step, instrs_in}
use Rattle.pef_reloc.specs.Verified.{run_stop}

abbrev pub walked : Walk → State
walked w = record { position = w.position; import_index = w.import_index; c = w.section_c; d = w.section_d }

-- the answer, and the registers after a list of instructions that isn't refused
pub record WalksTo (z : Sizes) (old new : State) (steps : List Step) (answer : Option RelocFault) : Type 0 where
  pub fault : run_stop z steps old ≡ answer
  pub after : answer ≡ None → new ≡ state_after (instrs_in steps) old

-- neither register is further on than that
pub record MovesOn (old new : Walk) (by : ℕ) : Type 0 where
  pub position : new.position ≤ max old.position (2 ^ 26) + by
  pub imports : new.import_index ≤ max old.import_index (2 ^ 26) + by

-- both registers are far from wrapping
pub record IsNear (w : Walk) (room : ℕ) : Type 0 where
  pub position : w.position ≤ 2 ^ 63 + room
  pub imports : w.import_index ≤ 2 ^ 63 + room
