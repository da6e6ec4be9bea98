-- When labels may be trusted: no instruction leads from a fixup's offset to a state that is closer to the end
-- by more than the instruction's length.
use Rattle.std.specs.Prelude.{◌≡◌, ◌≤◌, ◌<◌, ℕ, ◌+◌, true, List, [], ◌∷◌, length}
use Rattle.pef_reloc.specs.declared.fixup.Fixup.{Fixup}
use Rattle.pef_reloc.specs.declared.instr.Instr.{Instr}
use Rattle.pef_reloc.specs.Deliveries.{Delivers, index_past, is_flat_instr, sets_register}
use Rattle.pef_reloc.specs.Instrs.{instr_length}
use Rattle.pef_reloc.specs.Steps.{State, next_state}
use Rattle.pef_cert.specs.Labels.{Labels, class_of, classes}
use Rattle.pef_cert.specs.Extension.{extension_at}

-- L when these fixups are left, in the classes of a state
abbrev pub label_at : Labels → List Fixup → State → ℕ
label_at l fixups s = l.label (length fixups) (class_of l.registers s.c) (class_of l.registers s.d)

-- a state at the offset of a fixup, with the import index there
pub record AtFixup (f : Fixup) (index : ℕ) (s : State) : Type 0 where
  pub position : s.position ≡ f.offset
  pub index_is : s.import_index ≡ index

-- the labels when a fixup and others are left are feasible against all instructions that fit and aren't
-- repeats: those that set a register, and those that begin by adding at the fixup and add exactly the next
-- fixups
pub record FeasibleAt (l : Labels) (index : ℕ) (f : Fixup) (rest : List Fixup) : Type 0 where
  pub sets : (x : Instr) (s : State) → AtFixup f index s → is_flat_instr x ≡ true → sets_register x ≡ true
      → label_at l (f ∷ rest) s ≤ instr_length x + extension_at l (f ∷ rest) (next_state x s)
  pub adds : (x : Instr) (s : State) (left : List Fixup) → AtFixup f index s → is_flat_instr x ≡ true
      → Delivers x s (f ∷ rest) left → length left < length (f ∷ rest)
      → label_at l (f ∷ rest) s ≤ instr_length x + extension_at l left (next_state x s)

-- labels at each of some fixups, with the import index at the first
abbrev pub FeasibleFrom : Labels → ℕ → List Fixup → Type 0
FeasibleFrom l index [] = Unit {0}
FeasibleFrom l index (f ∷ rest) = FeasibleAt l index f rest × FeasibleFrom l (index_past f.base index) rest

-- labels of a whole list of fixups: after the last one they are 0
pub record Feasible (l : Labels) (fixups : List Fixup) : Type 0 where
  pub last : (c d : ℕ) → c < classes l → d < classes l → l.label 0 c d ≡ 0
  pub each : FeasibleFrom l 0 fixups
