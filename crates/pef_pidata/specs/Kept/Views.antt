-- The values of private types, without places in memory.
use Rattle.std.specs.Prelude.{ℕ, List, replicate}
use Rattle.pef_pidata.specs.Packing.{Part, block, zeros}
use Rattle.pef_pidata.specs.Pattern.{output}
use Rattle.pef_pidata.specs.declared.packing.Piece.{Piece}
use Rattle.pef_pidata.specs.declared.packing.Piece.TheVariants as piece
use Rattle.pef_pidata.specs.declared.packed.Step.{Step}
use Rattle.pef_pidata.specs.declared.argument.Argument.{Argument}
use Rattle.pef_pidata.specs.declared.instruction.Instruction.{Instruction}
use Rattle.pef_pidata.specs.declared.instruction.Decoded.{Decoded}
use Rattle.pef_pidata.specs.declared.write.Common.{Common}
use Rattle.pef_pidata.specs.declared.write.Common.TheVariants.{Bytes, Zeros}

-- an argument, and the bytes after it
abbrev pub argument_seen : Argument → ℕ × List ℕ
argument_seen a = (a.value, a.rest.now)

-- an instruction, and the bytes after its arguments
abbrev pub instruction_seen : Decoded → Instruction × List ℕ
instruction_seen d = (d.instruction, d.rest.now)

-- the output of an instruction, and the bytes after those that it copies
abbrev pub step_seen : Step → List ℕ × List ℕ
step_seen s = (output s.instruction s.bytes.now, s.rest.now)

-- the bytes between parts
abbrev pub common_seen : Common → List ℕ
common_seen (Bytes bytes) = bytes.now
common_seen (Zeros count) = replicate count 0

-- a part of an image
abbrev pub piece_seen : Piece → Part
piece_seen (piece.Zeros count) = zeros count
piece_seen (piece.Block bytes) = block bytes.now
