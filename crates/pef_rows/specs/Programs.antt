-- The instructions of a relocation program as lines and as objects of JSON. A line begins with the offset in the file. The
-- words of a listing follow (docs/FORMATS.md, "Listings").
use Rattle.std.specs.Prelude.{ℕ, Bool, true, false, List, [], ◌∷◌, ◌++◌, Option, None, Some, codes, decimal}
use Rattle.byteorder.specs.Endian.{big_bytes}
use Rattle.pef_listing.specs.Instructions.{instr_text, kind_name, numbers_of}
use Rattle.pef_ports.specs.Text.{hex_text}
use Rattle.pef_reloc.specs.Instrs.{halfwords_of}
use Rattle.pef_reloc.specs.Unrolled.{Step, instrs_of, steps_from}
use Rattle.pef_reloc.specs.declared.instr.Instr.{Instr}
use Rattle.pef_rows.specs.Findings.{file_offset}
use Rattle.pef_rows.specs.Objects.{relocation_front, separator}
use Rattle.pef_rows.specs.Tokens.{at_text}

-- a program: the offset in the file at which it begins, and its bytes
pub record Program : Type 0 where
  pub at : ℕ
  pub bytes : List ℕ

-- its instructions with their offsets in it, up to the first bytes that aren't one
abbrev pub steps_in : Program → List Step
steps_in p = steps_from 0 (instrs_of p.bytes)

-- the offset in the file of an instruction of a program that begins at `base`
abbrev pub step_offset : ℕ → Step → ℕ
step_offset base step = file_offset base (Some step.0)

-- the line of an instruction
unfoldable pub instr_line : ℕ → Instr → List ℕ
instr_line at instr = (at_text at ++ codes " ") ++ instr_text instr

-- halfwords in hex digits
abbrev pub code_text : List ℕ → List ℕ
code_text [] = []
code_text (w ∷ words) = hex_text (big_bytes 2 w) ++ code_text words

-- numbers in decimal, with commas between them
abbrev pub numbers_json : Bool → List ℕ → List ℕ
numbers_json is_first [] = []
numbers_json is_first (n ∷ numbers) = (separator is_first ++ decimal n) ++ numbers_json false numbers

-- the offset and the halfwords of an instruction
unfoldable pub instr_front : ℕ → List ℕ → List ℕ
instr_front at halfwords = codes "{\"offset\":" ++ decimal at ++ codes ",\"code\":\"" ++ code_text halfwords

-- the kind and the numbers
unfoldable pub instr_meaning : List ℕ → List ℕ → List ℕ
instr_meaning kind numbers = codes "\",\"kind\":\"" ++ kind ++ codes "\",\"numbers\":[" ++ numbers_json true numbers

-- the object of an instruction
unfoldable pub instr_object : ℕ → Instr → List ℕ
instr_object at instr = instr_front at (halfwords_of instr) ++ (instr_meaning (kind_name instr) (numbers_of instr) ++ codes "]}")

-- the objects of instructions, with commas between them
abbrev pub step_objects : ℕ → Bool → List Step → List ℕ
step_objects base is_first [] = []
step_objects base is_first (step ∷ steps) =
    (separator is_first ++ instr_object (step_offset base step) step.1) ++ step_objects base false steps

-- the list of a program's instructions
unfoldable pub program_list : Program → List ℕ
program_list p = codes "[" ++ (step_objects p.at true (steps_in p) ++ codes "]")

-- the same, or `null` if the program isn't printed
abbrev pub program_or_null : Option Program → List ℕ
program_or_null None = codes "null"
program_or_null (Some p) = program_list p

-- the object of a relocation header
unfoldable pub relocation_object : ℕ → ℕ → ℕ → ℕ → Option Program → List ℕ
relocation_object at section count first program = relocation_front at section count first ++ (program_or_null program ++ codes "}")
