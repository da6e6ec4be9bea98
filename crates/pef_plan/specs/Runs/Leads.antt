-- The value of an instruction that leads on. The rule is this project's own.
use Rattle.std.specs.Prelude.{◌≡◌, ◌≤◌, ℕ, ◌+◌, true, List}
use Rattle.pef_reloc.specs.declared.fixup.Fixup.{Fixup}
use Rattle.pef_reloc.specs.declared.instr.Instr.{Instr}
use Rattle.pef_reloc.specs.Deliveries.{Delivers, is_flat_instr}
use Rattle.pef_reloc.specs.Instrs.{instr_length}
use Rattle.pef_reloc.specs.Steps.{State, next_state}
use Rattle.pef_cert.specs.Labels.{Labels}
use Rattle.pef_cert.specs.Extension.{extension_at}

-- an instruction that leads on from a state: it fits and is no repeat. It adds exactly the next fixups, if any,
-- and the others are left. The sum of its halfwords and the extension after it is at most n
pub record LeadsWithin (l : Labels) (s : State) (fixups : List Fixup) (n : ℕ) : Type 0 where
  pub instr : Instr
  pub left : List Fixup
  pub flat : is_flat_instr instr ≡ true
  pub delivers : Delivers instr s fixups left
  pub falls : instr_length instr + extension_at l left (next_state instr s) ≤ n
