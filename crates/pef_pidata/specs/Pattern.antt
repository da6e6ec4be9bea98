-- Pattern text: the bytes that packed bytes spell (Mac OS Runtime Architectures, "PEF Structure",
-- pattern-initialized data). Which refusal comes first is this project's own choice, and so is that the rest of
-- the packed bytes is ignored.
use Rattle.std.specs.Prelude.{ℕ, zero, suc, ◌+◌, ◌-◌, ◌*◌, ◌==◌, List, [], ◌++◌, Result, Ok, Err, if◌then◌else◌, nat_lt, length, take, drop, replicate}
use Rattle.pef_words.specs.Refusals.{result_map}
use Rattle.pef_words.specs.Results.{◌>>=◌}
use Rattle.pef_pidata.specs.declared.fault.PackFault.{PackFault}
use Rattle.pef_pidata.specs.declared.fault.PackFault.TheVariants.{Truncated, TooLong, TooShort}
use Rattle.pef_pidata.specs.declared.instruction.Woven.{Woven}
use Rattle.pef_pidata.specs.declared.instruction.Instruction.{Instruction}
use Rattle.pef_pidata.specs.declared.instruction.Instruction.TheVariants.{Zeros, Block, Repeat, Weave, WeaveZeros}
use Rattle.pef_pidata.specs.Instructions.{Read, next_instruction}

-- a block some times, one after another
abbrev pub repeated : ℕ → List ℕ → List ℕ
repeated zero block = []
repeated (suc n) block = block ++ repeated n block

-- a common part before each of n custom parts of some size, and once more after the last
abbrev pub woven : ℕ → ℕ → List ℕ → List ℕ → List ℕ
woven zero size common parts = common
woven (suc n) size common parts = common ++ (take size parts ++ woven n size common (drop size parts))

-- the length of custom parts with the common part before each and after the last
abbrev pub woven_len : Woven → ℕ
woven_len w = w.common * (w.parts + 1) + w.custom * w.parts

-- how many bytes an instruction spells
abbrev pub spelled_len : Instruction → ℕ
spelled_len (Zeros count) = count
spelled_len (Block count) = count
spelled_len (Repeat count repeats) = count * (repeats + 1)
spelled_len (Weave w) = woven_len w
spelled_len (WeaveZeros w) = woven_len w

-- how many packed bytes after its arguments it copies
abbrev pub copied_len : Instruction → ℕ
copied_len (Zeros count) = 0
copied_len (Block count) = count
copied_len (Repeat count repeats) = count
copied_len (Weave w) = w.common + w.custom * w.parts
copied_len (WeaveZeros w) = w.custom * w.parts

-- the bytes that an instruction spells, from those that it copies
abbrev pub output : Instruction → List ℕ → List ℕ
output (Zeros count) bytes = replicate count 0
output (Block count) bytes = bytes
output (Repeat count repeats) bytes = repeated (repeats + 1) bytes
output (Weave w) bytes = woven w.parts w.custom (take w.common bytes) (drop w.common bytes)
output (WeaveZeros w) bytes = woven w.parts w.custom (replicate w.common 0) bytes

-- an instruction that was read at a place, if its output has room: its output, and the bytes after those that it copies
unfoldable pub output_of : ℕ → ℕ → Instruction × List ℕ → Read (List ℕ)
output_of at room (instruction, bytes) =
    if nat_lt room (spelled_len instruction) then Err (TooLong at)
    else if nat_lt (length bytes) (copied_len instruction) then Err (Truncated at)
    else Ok (output instruction (take (copied_len instruction) bytes), drop (copied_len instruction) bytes)

-- the output of the instruction at a place, and the bytes after it
unfoldable pub next_output : ℕ → ℕ → List ℕ → Read (List ℕ)
next_output at room packed = next_instruction at packed >>= output_of at room

-- the output of at most n instructions, until no room is left: those at the end of so many packed bytes
abbrev pub pattern : ℕ → ℕ → List ℕ → ℕ → Result (List ℕ) PackFault
pattern len zero packed room = if room == 0 then Ok [] else Err (TooShort (len - length packed))
pattern len (suc n) packed room =
    if room == 0 then Ok []
    else (next_output (len - length packed) room packed >>= (λ next. result_map (λ more. next.0 ++ more) (pattern len n next.1 (room - length next.0))))

-- the bytes that packed bytes spell at a length, or the first refusal. No instruction is shorter than a byte, so
-- there are no more instructions than bytes
unfoldable pub pattern_text : List ℕ → ℕ → Result (List ℕ) PackFault
pattern_text packed room = pattern (length packed) (length packed) packed room
