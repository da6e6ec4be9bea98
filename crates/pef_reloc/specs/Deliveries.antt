-- How instructions make a list of fixups, piece by piece, and which bases instructions name.
use Rattle.std.specs.Prelude.{◌≡◌, ℕ, ◌+◌, ◌*◌, ◌==◌, Bool, true, false, ◌&&◌, ◌||◌, List, [], ◌∷◌, ◌++◌}
use Rattle.std.specs.Option.{is_none}
use Rattle.pef_reloc.specs.declared.fixup.Base.{Base}
use Rattle.pef_reloc.specs.declared.fixup.Base.TheVariants.{Section, Import}
use Rattle.pef_reloc.specs.declared.fixup.Fixup.{Fixup}
use Rattle.pef_reloc.specs.declared.instr.Instr.{Instr}
use Rattle.pef_reloc.specs.declared.instr.Instr.TheVariants.{BySectDWithSkip, SmByImport, SmSetSectC, SmSetSectD, LgByImport, LgSetSectC, LgSetSectD}
use Rattle.pef_reloc.specs.Instrs.{instr_fits, repeat_of}
use Rattle.pef_reloc.specs.Steps.{State, additions, named_sections, trace}

-- an instruction that fits and isn't a repeat
abbrev pub is_flat_instr : Instr → Bool
is_flat_instr instr = is_none (repeat_of instr) && instr_fits instr

-- an instruction that sets a register
abbrev pub sets_register : Instr → Bool
sets_register (SmSetSectC k) = true
sets_register (SmSetSectD k) = true
sets_register (LgSetSectC k) = true
sets_register (LgSetSectD k) = true
sets_register _ = false

-- how many bytes an instruction passes before it adds
abbrev pub passes_on : Instr → ℕ
passes_on (BySectDWithSkip skip count) = 4 * skip
passes_on _ = 0

-- from a state, the instruction adds exactly the first of the fixups, one or more or none, and leaves
-- these
pub record Delivers (instr : Instr) (s : State) (fixups left : List Fixup) : Type 0 where
  pub is : fixups ≡ additions instr s ++ left

-- from a state, the instructions add exactly the fixups
pub record MakesFrom (s : State) (fixups : List Fixup) (instrs : List Instr) : Type 0 where
  pub is : trace instrs s ≡ fixups

-- the index of the next import after a base
abbrev pub index_past : Base → ℕ → ℕ
index_past (Section k) index = index
index_past (Import k) index = k + 1

-- the index of the next import after some fixups: one more than the last import among them
abbrev pub index_after : List Fixup → ℕ → ℕ
index_after [] index = index
index_after (fixup ∷ fixups) index = index_after fixups (index_past fixup.base index)

-- a state whose import index is that after the fixups made so far
pub record StandsAfter (made : List Fixup) (s : State) : Type 0 where
  pub index : s.import_index ≡ index_after made 0

-- the import that an instruction names
abbrev pub named_imports : Instr → List ℕ
named_imports (SmByImport k) = k ∷ []
named_imports (LgByImport k) = k ∷ []
named_imports _ = []

-- whether a base is that section, or that import
abbrev pub is_section : ℕ → Base → Bool
is_section k (Section j) = j == k
is_section k (Import j) = false

abbrev pub is_import : ℕ → Base → Bool
is_import k (Section j) = false
is_import k (Import j) = j == k

-- the fixups use the section, or the import
abbrev pub uses_section : List Fixup → ℕ → Bool
uses_section [] k = false
uses_section (fixup ∷ fixups) k = is_section k fixup.base || uses_section fixups k

abbrev pub uses_import : List Fixup → ℕ → Bool
uses_import [] k = false
uses_import (fixup ∷ fixups) k = is_import k fixup.base || uses_import fixups k

-- a test holds for each number of a list
abbrev pub all_meet : (ℕ → Bool) → List ℕ → Bool
all_meet test [] = true
all_meet test (k ∷ ks) = test k && all_meet test ks

-- the instructions name only sections and imports of the fixups
abbrev pub names_used : List Fixup → List Instr → Bool
names_used fixups [] = true
names_used fixups (instr ∷ instrs) =
    all_meet (uses_section fixups) (named_sections instr) && all_meet (uses_import fixups) (named_imports instr) && names_used fixups instrs
