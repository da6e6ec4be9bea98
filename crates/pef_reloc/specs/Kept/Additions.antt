-- What the parts of an iterator over additions have before them.
use Rattle.std.specs.Prelude.{◌≤◌, ℕ, ◌+◌, ◌^◌, max, List, ◌++◌}
use Rattle.pef_reloc.specs.declared.executed.Executed.{Executed}
use Rattle.pef_reloc.specs.declared.fixup.Fixup.{Fixup}
use Rattle.pef_reloc.specs.declared.instr.Instr.{Instr}
use Rattle.pef_reloc.specs.declared.registers.Registers.{Registers}
use Rattle.pef_reloc.specs.declared.run.Run.{Run}
use Rattle.pef_reloc.specs.Steps.{State}
use Rattle.pef_reloc.specs.Unrolled.{repeated}
use Rattle.pef_reloc.specs.Views.{listed}
use Rattle.pef_reloc.specs.Kept.Added.{run_added}
use Rattle.pef_reloc.specs.Kept.Executions.{begun}

-- the additions of an instruction
abbrev pub run_left : Run → List Fixup
run_left r = run_added r.row r.added

-- the state that registers hold
abbrev pub registers_seen : Registers → State
registers_seen r = record { position = r.position; import_index = r.import_index; c = r.section_c; d = r.section_d }

-- what is executed: what is left of this pass, the passes after it, and the program after the repeat
abbrev pub executed_left : Executed → List Instr
executed_left e = listed e.pass ++ (repeated e.passes (listed e.block) ++ begun e.program)

-- both registers are far from wrapping
pub record IsNear (r : Registers) (room : ℕ) : Type 0 where
  pub position : r.position ≤ room
  pub imports : r.import_index ≤ room

-- neither register is further on than an instruction moves it
pub record Advances (old new : Registers) : Type 0 where
  pub position : new.position ≤ max old.position (2 ^ 26) + 6144
  pub imports : new.import_index ≤ max old.import_index (2 ^ 26) + 6144
