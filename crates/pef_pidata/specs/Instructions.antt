-- How an instruction of pattern-initialized data is read (Mac OS Runtime Architectures, "PEF Structure",
-- pattern-initialized data; kPEFPkDataZero and its neighbours in PEFBinaryFormat.h): its first byte has an
-- opcode in the high three bits and a count in the low five, and arguments may follow. Which refusal comes
-- first is this project's own choice.
use Rattle.std.specs.Prelude.{ℕ, ◌+◌, ◌*◌, ◌/◌, ◌%◌, ◌^◌, ◌==◌, List, [], ◌∷◌, Result, Ok, Err, if◌then◌else◌, nat_lt}
use Rattle.pef_words.specs.Results.{◌>>=◌}
use Rattle.pef_pidata.specs.declared.fault.PackFault.{PackFault}
use Rattle.pef_pidata.specs.declared.fault.PackFault.TheVariants.{Truncated, BadOpcode, CountTooLarge, TooShort}
use Rattle.pef_pidata.specs.declared.instruction.Woven.{Woven}
use Rattle.pef_pidata.specs.declared.instruction.Instruction.{Instruction}
use Rattle.pef_pidata.specs.declared.instruction.Instruction.TheVariants.{Zeros, Block, Repeat, Weave, WeaveZeros}

-- what was read, and the bytes after it
abbrev pub Read : Type 0 → Type 0
Read A = Result (A × List ℕ) PackFault

-- the value of an argument with one more byte: each has seven bits of it, the highest first
abbrev pub with_byte : ℕ → ℕ → ℕ
with_byte value b = value * 128 + b % 128

-- an argument of the instruction at a place, of which some bytes were read. The top bit is set in all bytes but the last, a fifth byte is the
-- last, and the value is below 2 ^ 32
abbrev pub argument_from : ℕ → ℕ → ℕ → List ℕ → Read ℕ
argument_from at read value [] = Err (Truncated at)
argument_from at read value (b ∷ rest) =
    if nat_lt b 128
    then (if nat_lt (with_byte value b) (2 ^ 32) then Ok (with_byte value b, rest) else Err (CountTooLarge at))
    else (if read == 4 then Err (CountTooLarge at) else argument_from at (read + 1) (with_byte value b) rest)

-- an argument, and the bytes after it
unfoldable pub argument : ℕ → List ℕ → Read ℕ
argument at bytes = argument_from at 0 0 bytes

-- the count of an instruction: that in its first byte, or an argument if that is 0
unfoldable pub counted : ℕ → ℕ → List ℕ → Read ℕ
counted at count bytes = if count == 0 then argument at bytes else Ok (count, bytes)

-- the arguments of an instruction with parts: how many bytes the common part has, how many each custom part,
-- and how many custom parts there are
unfoldable pub woven_arguments : ℕ → ℕ → List ℕ → Read Woven
woven_arguments at low bytes = do
  common ← counted at low bytes
  custom ← argument at common.1
  parts ← argument at custom.1
  Ok (record { common = common.0; custom = custom.0; parts = parts.0 }, parts.1)

-- an instruction by its opcode, from its count on: zero, block copy, repeated block, and repeated block or
-- zeros interleaved with custom parts (kPEFPkDataZero, kPEFPkDataBlock, kPEFPkDataRepeat,
-- kPEFPkDataRepeatBlock, kPEFPkDataRepeatZero)
unfoldable pub by_opcode : ℕ → ℕ → ℕ → List ℕ → Read Instruction
by_opcode at opcode low bytes =
    if opcode == 0 then (do
      count ← counted at low bytes
      Ok (Zeros count.0, count.1))
    else if opcode == 1 then (do
      count ← counted at low bytes
      Ok (Block count.0, count.1))
    else if opcode == 2 then (do
      count ← counted at low bytes
      repeats ← argument at count.1
      Ok (Repeat count.0 repeats.0, repeats.1))
    else if opcode == 3 then (do
      arguments ← woven_arguments at low bytes
      Ok (Weave arguments.0, arguments.1))
    else if opcode == 4 then (do
      arguments ← woven_arguments at low bytes
      Ok (WeaveZeros arguments.0, arguments.1))
    else Err (BadOpcode at)

-- the instruction at a place, of the bytes from there on
unfoldable pub next_instruction : ℕ → List ℕ → Read Instruction
next_instruction at [] = Err (TooShort at)
next_instruction at (b ∷ rest) = by_opcode at (b / 32) (b % 32) rest
