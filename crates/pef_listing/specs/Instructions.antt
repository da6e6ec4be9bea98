-- How a relocation instruction is listed: its halfwords, its kind (PEFBinaryFormat.h, the relocation
-- opcodes), and its numbers by their meanings.
use Rattle.std.specs.Prelude.{ℕ, List, [], ◌∷◌, ◌++◌, decimal}
use Rattle.byteorder.specs.Endian.{big_bytes}
use Rattle.pef_reloc.specs.declared.instr.Instr.{Instr}
use Rattle.pef_reloc.specs.Instrs.{halfwords_of}
pub use Rattle.pef_reloc.specs.Meanings.{kind_name, numbers_of}
use Rattle.pef_ports.specs.Text.{hex_text}

-- halfwords, each as four upper-case hex digits and a space
abbrev pub halfwords_text : List ℕ → List ℕ
halfwords_text [] = []
halfwords_text (w ∷ words) = hex_text (big_bytes 2 w) ++ (32 ∷ halfwords_text words)

-- numbers in decimal, each after a space
abbrev pub numbers_text : List ℕ → List ℕ
numbers_text [] = []
numbers_text (n ∷ numbers) = 32 ∷ decimal n ++ numbers_text numbers

-- the line of an instruction
unfoldable pub instr_text : Instr → List ℕ
instr_text instr = halfwords_text (halfwords_of instr) ++ kind_name instr ++ numbers_text (numbers_of instr) ++ 10 ∷ []

-- the lines of a program
abbrev pub program_text : List Instr → List ℕ
program_text [] = []
program_text (instr ∷ instrs) = instr_text instr ++ program_text instrs
