-- The values of a program and of an iterator over one.
use Rattle.std.specs.Prelude.{◌≡◌, ℕ, List, [], ◌∷◌, drop, Option, None, Some}
use Rattle.pef_reloc.specs.declared.instr.Instr.{Instr}
use Rattle.pef_reloc.specs.declared.program.Instrs.{Instrs}
use Rattle.pef_reloc.specs.declared.program.Program.{Program}
use Rattle.pef_reloc.specs.Decoding.{code_at}
use Rattle.pef_reloc.specs.Unrolled.{Step, steps_from}

-- the bytes of a program
abbrev pub program_bytes : Program → List ℕ
program_bytes p = p.bytes.now

-- the instructions that an iterator has before it
abbrev pub listed : Instrs → List Instr
listed walk = (code_at walk.at (drop walk.at walk.bytes.now)).instrs

-- the instructions that an iterator has before it, with their places in the program
abbrev pub placed : Instrs → List Step
placed walk = steps_from walk.at (listed walk)

-- the first of a list is taken, and nothing from an empty one
abbrev pub TakesFirst : List Instr → Option Instr → List Instr → Type 0
TakesFirst old None new = (old ≡ []) × (new ≡ [])
TakesFirst old (Some instr) new = old ≡ instr ∷ new
