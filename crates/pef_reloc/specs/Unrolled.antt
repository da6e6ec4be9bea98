-- The instructions that a program with repeats executes, and why a program is refused (Mac OS Runtime
-- Architectures, "PEF Structure", the relocation instruction set; PEFBinaryFormat.h, kPEFRelocSmRepeat
-- and kPEFRelocLgRepeat). A repeat runs the preceding halfwords as many more times as its count says.
-- The pass that ran before it isn't counted. That, the refusals and the limit of steps are this
-- project's own rules.
use Rattle.std.specs.Prelude.{ℕ, zero, suc, ◌+◌, ◌-◌, ◌*◌, nat_le, if◌then◌else◌, List, [], ◌∷◌, ◌++◌, length, map, Option, None, Some, Result, Ok, Err}
use Rattle.std.specs.Option.{is_some, option_or}
use Rattle.std.specs.Result.{result_unwrap_or}
use Rattle.pef_reloc.specs.declared.fault.RelocFault.{RelocFault}
use Rattle.pef_reloc.specs.declared.fault.RelocFault.TheVariants.{RepeatTooFar, RepeatCuts, NestedRepeat, TooManySteps}
use Rattle.pef_reloc.specs.declared.instr.Instr.{Instr}
use Rattle.pef_reloc.specs.declared.instr.Repeat.{Repeat}
use Rattle.pef_reloc.specs.Instrs.{instr_length, program_length, repeat_free, repeat_of}
use Rattle.pef_reloc.specs.Decoding.{Code, code_at}
pub use Rattle.pef_reloc.specs.Limits.{step_limit}

-- the instructions of the last n halfwords, in front of others; of the earlier instructions, the last one
-- is first. Where a refusal is, isn't said yet
abbrev pub reached : List Instr → ℕ → List Instr → Result (List Instr) (ℕ → RelocFault)
reached before zero block = Ok block
reached [] (suc n) block = Err RepeatTooFar
reached (instr ∷ before) (suc n) block =
    if nat_le (instr_length instr) (suc n) then reached before (suc n - instr_length instr) (instr ∷ block)
    else Err RepeatCuts

-- the instructions that a repeat runs again
unfoldable pub block_of : List Instr → Repeat → List Instr
block_of before r = result_unwrap_or (reached before r.blocks []) []

-- where the bytes of instructions end, which is where the next one begins
abbrev pub place_after : List Instr → ℕ
place_after before = 2 * program_length before

-- an instruction that is executed, and the place in the program at which it begins
abbrev pub Step : Type 0
Step = ℕ × Instr

-- instructions one after the other, from a place on
abbrev pub steps_from : ℕ → List Instr → List Step
steps_from at [] = []
steps_from at (instr ∷ instrs) = (at, instr) ∷ steps_from (at + 2 * instr_length instr) instrs

-- the instructions without their places
abbrev pub instrs_in : List Step → List Instr
instrs_in steps = map (λ step. step.1) steps

-- a list this many times
abbrev pub repeated : {A : Type 0} → ℕ → List A → List A
repeated zero block = []
repeated (suc n) block = block ++ repeated n block

-- what is executed at an instruction: itself, or the passes of a repeat
abbrev pub executed_as : List Instr → Instr → Option Repeat → List Step
executed_as before instr None = (place_after before, instr) ∷ []
executed_as before instr (Some r) = repeated r.passes (steps_from (place_after before - 2 * r.blocks) (block_of before r))

abbrev pub executed : List Instr → Instr → List Step
executed before instr = executed_as before instr (repeat_of instr)

-- what a list of instructions executes after others
abbrev pub unrolled_after : List Instr → List Instr → List Step
unrolled_after before [] = []
unrolled_after before (instr ∷ instrs) = executed before instr ++ unrolled_after (instr ∷ before) instrs

-- what a program executes
abbrev pub unrolled : List Instr → List Step
unrolled instrs = unrolled_after [] instrs

-- the steps at an instruction: what it executes, and a repeat itself
abbrev pub steps_as : List Instr → Option Repeat → ℕ
steps_as before None = 1
steps_as before (Some r) = length (repeated r.passes (block_of before r)) + 1

-- why the block of a repeat at a place is refused
abbrev pub block_fault : ℕ → Result (List Instr) (ℕ → RelocFault) → Option RelocFault
block_fault at (Err fault) = Some (fault at)
block_fault at (Ok block) = if repeat_free block then None else Some (NestedRepeat at)

abbrev pub repeat_fault : List Instr → Option Repeat → Option RelocFault
repeat_fault before None = None
repeat_fault before (Some r) = block_fault (place_after before) (reached before r.blocks [])

-- why the instruction at a place is refused, with this many steps
abbrev pub steps_fault : ℕ → ℕ → Option RelocFault
steps_fault at steps = if nat_le steps step_limit then None else Some (TooManySteps at)

-- why an instruction is refused, after others and after this many steps. It begins where the others end
abbrev pub instr_fault : List Instr → ℕ → Option Repeat → Option RelocFault
instr_fault before steps r = option_or (repeat_fault before r) (steps_fault (place_after before) (steps + steps_as before r))

-- the first refusal of an instruction
abbrev pub first_fault : List Instr → ℕ → List Instr → Option RelocFault
first_fault before steps [] = None
first_fault before steps (instr ∷ instrs) =
    option_or (instr_fault before steps (repeat_of instr))
    (first_fault (instr ∷ before) (steps + steps_as before (repeat_of instr)) instrs)

-- the first refusal of some code: of its instructions, or of the bytes after them
abbrev pub code_fault : List Instr → ℕ → Code → Option RelocFault
code_fault before steps code = option_or (first_fault before steps code.instrs) code.fault

-- why the bytes aren't a readable program
unfoldable pub program_fault : List ℕ → Option RelocFault
program_fault bytes = code_fault [] 0 (code_at 0 bytes)

-- the instructions of a program
unfoldable pub instrs_of : List ℕ → List Instr
instrs_of bytes = (code_at 0 bytes).instrs

-- how many repeats some instructions have
abbrev pub repeat_count : List Instr → ℕ
repeat_count [] = 0
repeat_count (instr ∷ instrs) = if is_some (repeat_of instr) then suc (repeat_count instrs) else repeat_count instrs

-- the steps that a program takes: one for each instruction that it executes, in each pass anew, and one for each repeat
unfoldable pub steps_of : List ℕ → ℕ
steps_of bytes = length (unrolled (instrs_of bytes)) + repeat_count (instrs_of bytes)
