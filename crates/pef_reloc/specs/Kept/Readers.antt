-- The state of a reader of a program.
use Rattle.std.specs.Prelude.{◌≡◌, ◌≤◌, ℕ, ◌+◌, ◌-◌, ◌%◌, Bool, false, if◌then◌else◌, List, [], ◌∷◌, length, slice_index_or, Option, None, Result, Ok, Err, is_ok}
use Rattle.pef_reloc.specs.declared.fault.RelocFault.{RelocFault}
use Rattle.pef_reloc.specs.declared.fault.RelocFault.TheVariants.{NestedRepeat}
use Rattle.pef_reloc.specs.declared.instr.Instr.{Instr}
use Rattle.pef_reloc.specs.declared.recent.Reader.{Reader}
use Rattle.pef_reloc.specs.Instrs.{program_length, repeat_free, repeat_of}
use Rattle.pef_reloc.specs.Limits.{step_limit}
use Rattle.pef_reloc.specs.Unrolled.{instr_fault, reached, steps_as}

-- how many instructions the block of a repeat at a place has, if none of them is a repeat
abbrev pub flat_count : ℕ → List Instr → Result ℕ RelocFault
flat_count at block = if repeat_free block then Ok (length block) else Err (NestedRepeat at)

-- marks for the last sixteen halfwords, halfword h at h % 16: whether an instruction begins this many
-- halfwords back, so that a repeat can reach it
pub record Marks (marks : List Bool) (before : List Instr) : Type 0 where
  pub full : length marks ≡ 16
  pub begins : (n : ℕ) → 1 ≤ n → n ≤ 16 → n ≤ program_length before → slice_index_or marks ((program_length before - n) % 16) false ≡ is_ok (reached before n [])

-- the reader passed an instruction, or refused it
pub record Passes (old new : Reader) (before : List Instr) (instr : Instr) (answer : Option RelocFault) : Type 0 where
  pub fault : answer ≡ instr_fault before old.steps (repeat_of instr)
  pub marks : answer ≡ None → Marks new.begins (instr ∷ before)
  pub steps : answer ≡ None → new.steps ≡ old.steps + steps_as before (repeat_of instr)
  pub under : answer ≡ None → new.steps ≤ step_limit
