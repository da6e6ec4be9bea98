-- How many additions instructions make.
use Rattle.std.specs.Prelude.{ℕ, ◌+◌, ◌*◌, List, [], ◌∷◌}
use Rattle.pef_reloc.specs.declared.instr.Instr.{Instr}
use Rattle.pef_reloc.specs.declared.instr.Instr.TheVariants.{BySectDWithSkip, BySectC, BySectD, TVector12, TVector8, VTable8, ImportRun, SmByImport, SmBySection, LgByImport, LgBySection}

-- of one instruction, whatever the state is
abbrev pub addition_count : Instr → ℕ
addition_count (BySectDWithSkip skip count) = count
addition_count (BySectC n) = n
addition_count (BySectD n) = n
addition_count (TVector12 n) = 2 * n
addition_count (TVector8 n) = 2 * n
addition_count (VTable8 n) = n
addition_count (ImportRun n) = n
addition_count (SmByImport k) = 1
addition_count (SmBySection k) = 1
addition_count (LgByImport k) = 1
addition_count (LgBySection k) = 1
addition_count _ = 0

-- of some instructions
abbrev pub additions_in : List Instr → ℕ
additions_in [] = 0
additions_in (instr ∷ instrs) = addition_count instr + additions_in instrs
