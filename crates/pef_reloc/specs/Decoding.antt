-- Which instructions the bytes of a program spell (Mac OS Runtime Architectures, "PEF Structure", the
-- relocation instruction set; PEFBinaryFormat.h, kPEFRelocBySectDWithSkip and those after it).
use Rattle.std.specs.Prelude.{ℕ, zero, suc, ◌+◌, ◌-◌, ◌*◌, ◌/◌, ◌%◌, ◌==◌, Bool, true, false, nat_lt, if◌then◌else◌, List, [], ◌∷◌, length, drop, Option, None, Some, Result, Ok, Err}
use Rattle.std.specs.Option.{is_some}
use Rattle.pef_words.specs.Bytes.{number_at}
use Rattle.pef_words.specs.Refusals.{◌>>=◌}
use Rattle.pef_reloc.specs.declared.fault.RelocFault.{RelocFault}
use Rattle.pef_reloc.specs.declared.fault.RelocFault.TheVariants.{BadOpcode, CutInstruction}
use Rattle.pef_reloc.specs.declared.instr.Instr.{Instr}
use Rattle.pef_reloc.specs.declared.instr.Instr.TheVariants.{BySectDWithSkip, BySectC, BySectD, TVector12, TVector8, VTable8, ImportRun, SmByImport, SmSetSectC, SmSetSectD, SmBySection, IncrPosition, SmRepeat, SetPosition, LgByImport, LgRepeat, LgBySection, LgSetSectC, LgSetSectD}
use Rattle.pef_reloc.specs.Instrs.{instr_length}

-- the instruction of a seven-bit opcode and a nine-bit number
abbrev pub opcode_instr : ℕ → ℕ → Option Instr
opcode_instr opcode number =
    if opcode == 0x20 then Some (BySectC (number + 1))
    else if opcode == 0x21 then Some (BySectD (number + 1))
    else if opcode == 0x22 then Some (TVector12 (number + 1))
    else if opcode == 0x23 then Some (TVector8 (number + 1))
    else if opcode == 0x24 then Some (VTable8 (number + 1))
    else if opcode == 0x25 then Some (ImportRun (number + 1))
    else if opcode == 0x30 then Some (SmByImport number)
    else if opcode == 0x31 then Some (SmSetSectC number)
    else if opcode == 0x32 then Some (SmSetSectD number)
    else if opcode == 0x33 then Some (SmBySection number)
    else None

-- the instruction of one halfword
unfoldable pub short_instr : ℕ → Option Instr
short_instr w =
    if nat_lt (w / 0x1000) 4 then Some (BySectDWithSkip (w / 64) (w % 64))
    else if w / 0x1000 == 8 then Some (IncrPosition (w % 4096 + 1))
    else if w / 0x1000 == 9 then Some (SmRepeat (w / 256 % 16 + 1) (w % 256 + 1))
    else opcode_instr (w / 512) (w % 512)

-- the instruction on a section, of a four-bit opcode
abbrev pub section_instr : ℕ → ℕ → Option Instr
section_instr opcode section =
    if opcode == 0 then Some (LgBySection section)
    else if opcode == 1 then Some (LgSetSectC section)
    else if opcode == 2 then Some (LgSetSectD section)
    else None

-- the instruction of two halfwords; the first decides whether there is one
unfoldable pub long_instr : ℕ → ℕ → Option Instr
long_instr w v =
    if w / 1024 == 0x28 then Some (SetPosition (w % 1024 * 0x10000 + v))
    else if w / 1024 == 0x29 then Some (LgByImport (w % 1024 * 0x10000 + v))
    else if w / 1024 == 0x2C then Some (LgRepeat (w / 64 % 16 + 1) (w % 64 * 0x10000 + v))
    else if w / 1024 == 0x2D then section_instr (w / 64 % 16) (w % 64 * 0x10000 + v)
    else None

-- the one instruction if there is one; otherwise the other, if its first halfword begins one. A refusal has the
-- place of that halfword
abbrev pub short_or_long : ℕ → Option Instr → Bool → Option Instr → Result Instr RelocFault
short_or_long at (Some instr) begins long = Ok instr
short_or_long at None false long = Err (BadOpcode at)
short_or_long at None true None = Err (CutInstruction at)
short_or_long at None true (Some instr) = Ok instr

-- the instruction of a first halfword, if there is one, and a second one, if there is one
abbrev pub instr_of : ℕ → Option ℕ → Option ℕ → Result Instr RelocFault
instr_of at None second = Err (CutInstruction at)
instr_of at (Some w) second = short_or_long at (short_instr w) (is_some (long_instr w 0)) (second >>= long_instr w)

-- the instruction that begins the bytes from a place of a program on, or why there is none
unfoldable pub first_instr : ℕ → List ℕ → Result Instr RelocFault
first_instr at bytes = instr_of at (number_at 2 bytes 0) (number_at 2 bytes 2)

-- instructions, and why the bytes after them aren't one
pub record Code : Type 0 where
  pub instrs : List Instr
  pub fault : Option RelocFault

abbrev pub no_code : Code
no_code = record { instrs = []; fault = None }

abbrev pub code_more : Instr → Code → Code
code_more instr code = record { instrs = instr ∷ code.instrs; fault = code.fault }

-- an instruction and the code of the bytes after it
abbrev pub code_from : Result Instr RelocFault → (Instr → Code) → Code
code_from (Ok instr) rest = code_more instr (rest instr)
code_from (Err fault) rest = record { instrs = []; fault = Some fault }

-- the code of the bytes from a place on, if they have at most n instructions
unfoldable pub code_within : ℕ → ℕ → List ℕ → Code
code_within zero at bytes = no_code
code_within (suc n) at [] = no_code
code_within (suc n) at (b ∷ bytes) = code_from (first_instr at (b ∷ bytes)) (λ instr. code_within n (at + 2 * instr_length instr) (drop (2 * instr_length instr) (b ∷ bytes)))

-- the code of the bytes from a place on: their instructions up to the first bytes that aren't one
unfoldable pub code_at : ℕ → List ℕ → Code
code_at at bytes = code_within (length bytes) at bytes

-- the instruction that starts at a halfword, and none if none starts there
abbrev pub starting : List Instr → ℕ → Option Instr
starting [] at = None
starting (instr ∷ instrs) at =
    if at == 0 then Some instr
    else if nat_lt at (instr_length instr) then None
    else starting instrs (at - instr_length instr)
