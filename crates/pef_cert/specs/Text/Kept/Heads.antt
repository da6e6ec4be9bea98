-- The parts in which a certificate's lines are printed.
use Rattle.std.specs.Prelude.{ℕ, ◌-◌, List, [], ◌∷◌, ◌++◌, codes, decimal}
use Rattle.pef_cert.specs.Text.Printed.{line_text, number_words, program_words}
use Rattle.pef_reloc.specs.declared.instr.Instr.{Instr}
use Rattle.pef_reloc.specs.Instrs.{program_length}

-- the lines before the labels
abbrev pub head_text : ℕ → ℕ → List Instr → List ℕ → List ℕ
head_text section rows program registers = line_text (codes "section") (decimal section ∷ [])
    ++ (line_text (codes "fixups") (decimal (rows - 1) ∷ [])
    ++ (line_text (codes "length") (decimal (program_length program) ∷ [])
    ++ (line_text (codes "program") (program_words program)
    ++ line_text (codes "registers") (number_words registers ++ codes "*" ∷ []))))

-- the first words of the line of equal rows
abbrev pub indices_text : ℕ → ℕ → List ℕ
indices_text first last = ((codes "at " ++ decimal first) ++ codes " ") ++ decimal last
