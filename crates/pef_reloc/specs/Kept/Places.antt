-- The places of instructions in the bytes of a program.
use Rattle.std.specs.Prelude.{◌≡◌, ℕ, ◌+◌, ◌*◌, List, [], ◌∷◌, drop, Ok}
use Rattle.pef_reloc.specs.declared.instr.Instr.{Instr}
use Rattle.pef_reloc.specs.Decoding.{first_instr}
use Rattle.pef_reloc.specs.Instrs.{instr_length}

-- the instructions are in the bytes from one place to another
abbrev pub Spans : List ℕ → ℕ → List Instr → ℕ → Type 0
Spans bytes from [] to = from ≡ to
Spans bytes from (instr ∷ instrs) to = (first_instr from (drop from bytes) ≡ Ok instr) × Spans bytes (from + 2 * instr_length instr) instrs to

-- the instructions, the last one first, are in the bytes up to a place
abbrev pub Before : List ℕ → List Instr → ℕ → Type 0
Before bytes [] at = at ≡ 0
Before bytes (instr ∷ before) at = (prev : ℕ) × (at ≡ prev + 2 * instr_length instr) × (first_instr prev (drop prev bytes) ≡ Ok instr) × Before bytes before prev
