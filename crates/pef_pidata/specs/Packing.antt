-- How an image is packed here: each longest run of three or more zeros is spelled by its length, and the bytes
-- between two such runs, or at an end, are copied. The instructions are those of pattern-initialized data (Mac OS
-- Runtime Architectures, "PEF Structure"; kPEFPkDataZero and kPEFPkDataBlock in PEFBinaryFormat.h). Which of them
-- spell an image is this project's own choice.
use Rattle.std.specs.Prelude.{◌≡◌, ℕ, ◌+◌, ◌*◌, ◌/◌, ◌%◌, ◌^◌, ◌<◌, ◌==◌, List, [], ◌∷◌, ◌++◌, Ok, if◌then◌else◌, nat_lt, length, replicate}
use Rattle.pef_pidata.specs.Pattern.{pattern_text}

-- a part of an image
pub data Part : Type 0 where
  zeros : ℕ → Part
  block : List ℕ → Part

-- a zero before some parts
abbrev pub zero_before : List Part → List Part
zero_before [] = zeros 1 ∷ []
zero_before (zeros count ∷ parts) = zeros (count + 1) ∷ parts
zero_before (block bytes ∷ parts) = zeros 1 ∷ (block bytes ∷ parts)

-- bytes before some parts: they join a block
abbrev pub bytes_before : List ℕ → List Part → List Part
bytes_before bytes [] = block bytes ∷ []
bytes_before bytes (zeros count ∷ parts) = block bytes ∷ (zeros count ∷ parts)
bytes_before bytes (block more ∷ parts) = block (bytes ++ more) ∷ parts

-- the longest runs of zeros, and the blocks of other bytes between them
abbrev pub runs : List ℕ → List Part
runs [] = []
runs (b ∷ rest) = if b == 0 then zero_before (runs rest) else bytes_before (b ∷ []) (runs rest)

-- the parts, with each run of fewer than three zeros in a block
abbrev pub without_short : List Part → List Part
without_short [] = []
without_short (zeros count ∷ parts) = if nat_lt count 3 then bytes_before (replicate count 0) (without_short parts) else zeros count ∷ without_short parts
without_short (block bytes ∷ parts) = bytes_before bytes (without_short parts)

-- the parts of an image
unfoldable pub parts_of : List ℕ → List Part
parts_of image = without_short (runs image)

-- a byte of an argument that isn't its last: the seven bits from a unit on, with the top bit set. There is none
-- if the value has no bits from there on
abbrev pub leading_byte : ℕ → ℕ → List ℕ
leading_byte unit value = if nat_lt value unit then [] else (128 + value / unit % 128) ∷ []

-- an argument in its fewest bytes
unfoldable pub argument_bytes : ℕ → List ℕ
argument_bytes value = leading_byte (2 ^ 28) value ++ (leading_byte (2 ^ 21) value ++ (leading_byte (2 ^ 14) value ++ (leading_byte (2 ^ 7) value ++ (value % 128) ∷ [])))

-- the first byte of an instruction, and its count if the low five bits have no room for it
unfoldable pub counted_bytes : ℕ → ℕ → List ℕ
counted_bytes opcode count = if nat_lt count 32 then (opcode * 32 + count) ∷ [] else (opcode * 32) ∷ argument_bytes count

-- the instruction that spells a part
unfoldable pub part_bytes : Part → List ℕ
part_bytes (zeros count) = counted_bytes 0 count
part_bytes (block bytes) = counted_bytes 1 (length bytes) ++ bytes

-- the instructions that spell some parts
abbrev pub spelling : List Part → List ℕ
spelling [] = []
spelling (part ∷ parts) = part_bytes part ++ spelling parts

-- the packed bytes of an image
unfoldable pub packed_of : List ℕ → List ℕ
packed_of image = spelling (parts_of image)

-- the packed bytes spell the image
abbrev pub PackedExpands : Type 0
PackedExpands = (image : List ℕ) → length image < 2 ^ 32 → pattern_text (packed_of image) (length image) ≡ Ok image
