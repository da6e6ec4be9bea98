-- What an iterator over the additions of a program has before it.
use Rattle.std.specs.Prelude.{◌≡◌, ◌<◌, List, ◌++◌, length}
use Rattle.pef_reloc.specs.declared.fixup.Fixup.{Fixup}
use Rattle.pef_reloc.specs.declared.fixups.Fixups.{Fixups}
use Rattle.pef_reloc.specs.Steps.{trace}
use Rattle.pef_reloc.specs.Kept.Additions.{executed_left, registers_seen, run_left}

-- the additions that are left: those of the last instruction, and those of the instructions after it
abbrev pub fixups_left : Fixups → List Fixup
fixups_left f = run_left f.run ++ trace (executed_left f.executed) (registers_seen f.registers)

-- an instruction was executed: its additions are those that come next
pub record Executes (old new : Fixups) : Type 0 where
  pub left : trace (executed_left old.executed) (registers_seen old.registers) ≡ fixups_left new
  pub fewer : length (executed_left new.executed) < length (executed_left old.executed)
