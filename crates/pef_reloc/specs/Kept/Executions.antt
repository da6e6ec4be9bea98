-- What a program executes, from the bytes: a repeat has its block in the halfwords before it.
use Rattle.std.specs.Prelude.{◌≡◌, ℕ, ◌+◌, ◌-◌, ◌*◌, ◌<◌, List, [], ◌∷◌, ◌++◌, drop, length, take, Option, None, Some}
use Rattle.pef_reloc.specs.declared.instr.Instr.{Instr}
use Rattle.pef_reloc.specs.declared.instr.Repeat.{Repeat}
use Rattle.pef_reloc.specs.declared.program.Instrs.{Instrs}
use Rattle.pef_reloc.specs.Decoding.{code_at}
use Rattle.pef_reloc.specs.Instrs.{instr_length, repeat_of}
use Rattle.pef_reloc.specs.Unrolled.{repeated}

-- the instructions of the last halfwords before a place
unfoldable pub behind : List ℕ → ℕ → ℕ → List Instr
behind bytes place blocks = (code_at (place - 2 * blocks) (drop (place - 2 * blocks) (take place bytes))).instrs

-- what the instruction at a place executes
abbrev pub executed_at : List ℕ → ℕ → Instr → Option Repeat → List Instr
executed_at bytes at instr None = instr ∷ []
executed_at bytes at instr (Some r) = repeated r.passes (behind bytes at r.blocks)

-- what the instructions from a place on execute
abbrev pub executed_from : List ℕ → ℕ → List Instr → List Instr
executed_from bytes at [] = []
executed_from bytes at (instr ∷ instrs) = executed_at bytes at instr (repeat_of instr) ++ executed_from bytes (at + 2 * instr_length instr) instrs

-- what the instructions execute that an iterator has before it
abbrev pub begun : Instrs → List Instr
begun walk = executed_from walk.bytes.now walk.at (code_at walk.at (drop walk.at walk.bytes.now)).instrs

-- an iterator moved past an instruction
pub record IsPassed (old : Instrs) (instr : Instr) (new : Instrs) : Type 0 where
  pub inside : old.at < length old.bytes.now
  pub place : new.at ≡ old.at + 2 * instr_length instr
  pub bytes : new.bytes ≡ old.bytes
