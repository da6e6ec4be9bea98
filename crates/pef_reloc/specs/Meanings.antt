-- An instruction in words and numbers: the name of its kind (PEFBinaryFormat.h, the relocation opcodes), and its numbers by
-- their meanings.
use Rattle.std.specs.Prelude.{ℕ, List, [], ◌∷◌, codes}
use Rattle.pef_reloc.specs.declared.instr.Instr.{Instr}
use Rattle.pef_reloc.specs.declared.instr.Instr.TheVariants.{BySectDWithSkip, BySectC, BySectD, TVector12, TVector8, VTable8, ImportRun, SmByImport, SmSetSectC, SmSetSectD, SmBySection, IncrPosition, SmRepeat, SetPosition, LgByImport, LgRepeat, LgBySection, LgSetSectC, LgSetSectD}

-- the name of an instruction's kind
abbrev pub kind_name : Instr → List ℕ
kind_name (BySectDWithSkip skip count) = codes "BySectDWithSkip"
kind_name (BySectC n) = codes "BySectC"
kind_name (BySectD n) = codes "BySectD"
kind_name (TVector12 n) = codes "TVector12"
kind_name (TVector8 n) = codes "TVector8"
kind_name (VTable8 n) = codes "VTable8"
kind_name (ImportRun n) = codes "ImportRun"
kind_name (SmByImport k) = codes "SmByImport"
kind_name (SmSetSectC k) = codes "SmSetSectC"
kind_name (SmSetSectD k) = codes "SmSetSectD"
kind_name (SmBySection k) = codes "SmBySection"
kind_name (IncrPosition e) = codes "IncrPosition"
kind_name (SmRepeat blocks count) = codes "SmRepeat"
kind_name (SetPosition q) = codes "SetPosition"
kind_name (LgByImport k) = codes "LgByImport"
kind_name (LgRepeat blocks count) = codes "LgRepeat"
kind_name (LgBySection k) = codes "LgBySection"
kind_name (LgSetSectC k) = codes "LgSetSectC"
kind_name (LgSetSectD k) = codes "LgSetSectD"

-- the numbers of an instruction: words skipped and words added to, additions, an index, bytes moved by,
-- an offset, or halfwords repeated and passes
abbrev pub numbers_of : Instr → List ℕ
numbers_of (BySectDWithSkip skip count) = skip ∷ count ∷ []
numbers_of (BySectC n) = n ∷ []
numbers_of (BySectD n) = n ∷ []
numbers_of (TVector12 n) = n ∷ []
numbers_of (TVector8 n) = n ∷ []
numbers_of (VTable8 n) = n ∷ []
numbers_of (ImportRun n) = n ∷ []
numbers_of (SmByImport k) = k ∷ []
numbers_of (SmSetSectC k) = k ∷ []
numbers_of (SmSetSectD k) = k ∷ []
numbers_of (SmBySection k) = k ∷ []
numbers_of (IncrPosition e) = e ∷ []
numbers_of (SmRepeat blocks count) = blocks ∷ count ∷ []
numbers_of (SetPosition q) = q ∷ []
numbers_of (LgByImport k) = k ∷ []
numbers_of (LgRepeat blocks count) = blocks ∷ count ∷ []
numbers_of (LgBySection k) = k ∷ []
numbers_of (LgSetSectC k) = k ∷ []
numbers_of (LgSetSectD k) = k ∷ []
