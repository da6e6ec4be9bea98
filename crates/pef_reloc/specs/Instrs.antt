-- The relocation instructions: which numbers fit them, how long they are, and their halfwords
-- (PEFBinaryFormat.h, the relocation opcodes).
use Rattle.std.specs.Prelude.{ℕ, ◌+◌, ◌-◌, ◌*◌, ◌/◌, ◌%◌, Bool, true, ◌&&◌, nat_lt, nat_le, List, [], ◌∷◌, ◌++◌, Option, None, Some}
use Rattle.std.specs.Option.{is_none}
use Rattle.byteorder.specs.Endian.{big_bytes}
use Rattle.pef_reloc.specs.declared.instr.Instr.{Instr}
use Rattle.pef_reloc.specs.declared.instr.Repeat.{Repeat}
use Rattle.pef_reloc.specs.declared.instr.Instr.TheVariants.{BySectDWithSkip, BySectC, BySectD, TVector12, TVector8, VTable8, ImportRun, SmByImport, SmSetSectC, SmSetSectD, SmBySection, IncrPosition, SmRepeat, SetPosition, LgByImport, LgRepeat, LgBySection, LgSetSectC, LgSetSectD}

-- a number from 1 up to a limit
abbrev pub counts_to : ℕ → ℕ → Bool
counts_to limit n = nat_le 1 n && nat_le n limit

-- the numbers of an instruction fit their bits
abbrev pub instr_fits : Instr → Bool
instr_fits (BySectDWithSkip skip count) = nat_le skip 255 && nat_le count 63
instr_fits (BySectC n) = counts_to 512 n
instr_fits (BySectD n) = counts_to 512 n
instr_fits (TVector12 n) = counts_to 512 n
instr_fits (TVector8 n) = counts_to 512 n
instr_fits (VTable8 n) = counts_to 512 n
instr_fits (ImportRun n) = counts_to 512 n
instr_fits (SmByImport k) = nat_lt k 512
instr_fits (SmSetSectC k) = nat_lt k 512
instr_fits (SmSetSectD k) = nat_lt k 512
instr_fits (SmBySection k) = nat_lt k 512
instr_fits (IncrPosition e) = counts_to 4096 e
instr_fits (SmRepeat blocks count) = nat_le 1 blocks && nat_le blocks 16 && nat_le 1 count && nat_le count 256
instr_fits (SetPosition q) = nat_lt q 0x4000000
instr_fits (LgByImport k) = nat_lt k 0x4000000
instr_fits (LgRepeat blocks count) = nat_le 1 blocks && nat_le blocks 16 && nat_lt count 0x400000
instr_fits (LgBySection k) = nat_lt k 0x400000
instr_fits (LgSetSectC k) = nat_lt k 0x400000
instr_fits (LgSetSectD k) = nat_lt k 0x400000

-- the halfwords of an instruction
abbrev pub instr_length : Instr → ℕ
instr_length (SetPosition q) = 2
instr_length (LgByImport k) = 2
instr_length (LgRepeat blocks count) = 2
instr_length (LgBySection k) = 2
instr_length (LgSetSectC k) = 2
instr_length (LgSetSectD k) = 2
instr_length _ = 1

-- the repeat, if the instruction is one
abbrev pub repeat_of : Instr → Option Repeat
repeat_of (SmRepeat blocks count) = Some (record { blocks = blocks; passes = count })
repeat_of (LgRepeat blocks count) = Some (record { blocks = blocks; passes = count })
repeat_of _ = None

-- a number of more than sixteen bits: its high bits beside an opcode, and its low ones after it
abbrev pub in_two : ℕ → ℕ → List ℕ
in_two opcode n = (opcode + n / 0x10000) ∷ n % 0x10000 ∷ []

-- the halfwords that spell an instruction whose numbers fit
unfoldable pub halfwords_of : Instr → List ℕ
halfwords_of (BySectDWithSkip skip count) = (skip * 64 + count) ∷ []
halfwords_of (BySectC n) = (0x4000 + (n - 1)) ∷ []
halfwords_of (BySectD n) = (0x4200 + (n - 1)) ∷ []
halfwords_of (TVector12 n) = (0x4400 + (n - 1)) ∷ []
halfwords_of (TVector8 n) = (0x4600 + (n - 1)) ∷ []
halfwords_of (VTable8 n) = (0x4800 + (n - 1)) ∷ []
halfwords_of (ImportRun n) = (0x4A00 + (n - 1)) ∷ []
halfwords_of (SmByImport k) = (0x6000 + k) ∷ []
halfwords_of (SmSetSectC k) = (0x6200 + k) ∷ []
halfwords_of (SmSetSectD k) = (0x6400 + k) ∷ []
halfwords_of (SmBySection k) = (0x6600 + k) ∷ []
halfwords_of (IncrPosition e) = (0x8000 + (e - 1)) ∷ []
halfwords_of (SmRepeat blocks count) = (0x9000 + (blocks - 1) * 256 + (count - 1)) ∷ []
halfwords_of (SetPosition q) = in_two 0xA000 q
halfwords_of (LgByImport k) = in_two 0xA400 k
halfwords_of (LgRepeat blocks count) = in_two (0xB000 + (blocks - 1) * 64) count
halfwords_of (LgBySection k) = in_two 0xB400 k
halfwords_of (LgSetSectC k) = in_two 0xB440 k
halfwords_of (LgSetSectD k) = in_two 0xB480 k

-- the bytes of halfwords, the high byte of each first
abbrev pub halfword_bytes : List ℕ → List ℕ
halfword_bytes [] = []
halfword_bytes (w ∷ words) = big_bytes 2 w ++ halfword_bytes words

-- the bytes that spell a list of instructions
unfoldable pub spelled : List Instr → List ℕ
spelled [] = []
spelled (instr ∷ instrs) = halfword_bytes (halfwords_of instr) ++ spelled instrs

-- the numbers of each instruction fit
abbrev pub instrs_fit : List Instr → Bool
instrs_fit [] = true
instrs_fit (instr ∷ instrs) = instr_fits instr && instrs_fit instrs

-- none of the instructions is a repeat
abbrev pub repeat_free : List Instr → Bool
repeat_free [] = true
repeat_free (instr ∷ instrs) = is_none (repeat_of instr) && repeat_free instrs

-- the halfwords of a list of instructions
abbrev pub program_length : List Instr → ℕ
program_length [] = 0
program_length (instr ∷ instrs) = instr_length instr + program_length instrs
