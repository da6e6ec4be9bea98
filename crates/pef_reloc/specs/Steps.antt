-- The effect of a relocation instruction that isn't a repeat: the words that it adds to, the sections
-- that it names and the registers after it (Mac OS Runtime Architectures, "PEF Structure", the
-- relocation instruction set). All numbers are whole numbers that don't wrap.
use Rattle.std.specs.Prelude.{◌≡◌, ◌≤◌, ℕ, zero, suc, ◌+◌, ◌*◌, Bool, true, ◌&&◌, nat_lt, List, [], ◌∷◌, ◌++◌, map}
use Rattle.pef_reloc.specs.declared.fixup.Base.{Base}
use Rattle.pef_reloc.specs.declared.fixup.Base.TheVariants.{Section, Import}
use Rattle.pef_reloc.specs.declared.fixup.Fixup.{Fixup}
use Rattle.pef_reloc.specs.declared.instr.Instr.{Instr}
use Rattle.pef_reloc.specs.declared.instr.Instr.TheVariants.{BySectDWithSkip, BySectC, BySectD, TVector12, TVector8, VTable8, ImportRun, SmByImport, SmSetSectC, SmSetSectD, SmBySection, IncrPosition, SmRepeat, SetPosition, LgByImport, LgRepeat, LgBySection, LgSetSectC, LgSetSectD}
use Rattle.pef_reloc.specs.Instrs.{instrs_fit, repeat_free, program_length}

-- the position, the index of the next import, and the numbers of the sections C and D
pub record State : Type 0 where
  pub position : ℕ
  pub import_index : ℕ
  pub c : ℕ
  pub d : ℕ

-- the state that a program starts from
abbrev pub start : State
start = record { position = 0; import_index = 0; c = 0; d = 1 }

-- an addition, which is a fixup: the offset of a word, and the base whose address is added
abbrev pub added : ℕ → Base → Fixup
added position base = record { offset = position; base = base }

-- n additions of a base, w bytes apart
unfoldable pub row : ℕ → ℕ → ℕ → Base → List Fixup
row zero p w b = []
row (suc n) p w b = added p b ∷ row n (p + w) w b

-- n times two additions side by side, w bytes apart
unfoldable pub pairs : ℕ → ℕ → ℕ → Base → Base → List Fixup
pairs zero p w b b' = []
pairs (suc n) p w b b' = added p b ∷ added (p + 4) b' ∷ pairs n (p + w) w b b'

-- n additions of imports side by side, numbered from m
unfoldable pub numbered : ℕ → ℕ → ℕ → List Fixup
numbered zero p m = []
numbered (suc n) p m = added p (Import m) ∷ numbered n (p + 4) (m + 1)

-- the additions of an instruction in a state
abbrev pub additions : Instr → State → List Fixup
additions (BySectDWithSkip skip count) s = row count (s.position + 4 * skip) 4 (Section s.d)
additions (BySectC n) s = row n s.position 4 (Section s.c)
additions (BySectD n) s = row n s.position 4 (Section s.d)
additions (TVector12 n) s = pairs n s.position 12 (Section s.c) (Section s.d)
additions (TVector8 n) s = pairs n s.position 8 (Section s.c) (Section s.d)
additions (VTable8 n) s = row n s.position 8 (Section s.d)
additions (ImportRun n) s = numbered n s.position s.import_index
additions (SmByImport k) s = added s.position (Import k) ∷ []
additions (SmBySection k) s = added s.position (Section k) ∷ []
additions (LgByImport k) s = added s.position (Import k) ∷ []
additions (LgBySection k) s = added s.position (Section k) ∷ []
additions _ s = []

-- the section that an instruction names, which must exist
abbrev pub named_sections : Instr → List ℕ
named_sections (SmSetSectC k) = k ∷ []
named_sections (SmSetSectD k) = k ∷ []
named_sections (SmBySection k) = k ∷ []
named_sections (LgBySection k) = k ∷ []
named_sections (LgSetSectC k) = k ∷ []
named_sections (LgSetSectD k) = k ∷ []
named_sections _ = []

-- the state this many bytes further on
abbrev pub moved : ℕ → State → State
moved n s = record s { position = s.position + n }

-- the state after the word of an import
abbrev pub past_import : ℕ → State → State
past_import k s = record s { position = s.position + 4; import_index = k + 1 }

-- the state after an instruction
abbrev pub next_state : Instr → State → State
next_state (BySectDWithSkip skip count) s = moved (4 * skip + 4 * count) s
next_state (BySectC n) s = moved (4 * n) s
next_state (BySectD n) s = moved (4 * n) s
next_state (TVector12 n) s = moved (12 * n) s
next_state (TVector8 n) s = moved (8 * n) s
next_state (VTable8 n) s = moved (8 * n) s
next_state (ImportRun n) s = record s { position = s.position + 4 * n; import_index = s.import_index + n }
next_state (SmByImport k) s = past_import k s
next_state (SmSetSectC k) s = record s { c = k }
next_state (SmSetSectD k) s = record s { d = k }
next_state (SmBySection k) s = moved 4 s
next_state (IncrPosition e) s = moved e s
next_state (SetPosition q) s = record s { position = q }
next_state (LgByImport k) s = past_import k s
next_state (LgBySection k) s = moved 4 s
next_state (LgSetSectC k) s = record s { c = k }
next_state (LgSetSectD k) s = record s { d = k }
next_state (SmRepeat blocks count) s = s
next_state (LgRepeat blocks count) s = s

-- the additions of a list of instructions from a state, one after the other
abbrev pub trace : List Instr → State → List Fixup
trace [] s = []
trace (instr ∷ instrs) s = additions instr s ++ trace instrs (next_state instr s)

-- the state after a list of instructions
abbrev pub state_after : List Instr → State → State
state_after [] s = s
state_after (instr ∷ instrs) s = state_after instrs (next_state instr s)

-- what is done, in order: an addition, or a look at a position for a section that must exist
pub data Act : Type 0 where
  add : Fixup → Act
  need : ℕ → ℕ → Act

-- the acts of an instruction: the section that it names is looked for first
abbrev pub acts_of : Instr → State → List Act
acts_of instr s = map (need s.position) (named_sections instr) ++ map add (additions instr s)

-- the acts of a list of instructions from a state
abbrev pub acts_from : List Instr → State → List Act
acts_from [] s = []
acts_from (instr ∷ instrs) s = acts_of instr s ++ acts_from instrs (next_state instr s)

-- instructions that fit, without a repeat
abbrev pub is_flat : List Instr → Bool
is_flat instrs = repeat_free instrs && instrs_fit instrs

-- the sections of a list are numbered below a count
abbrev pub all_below : ℕ → List ℕ → Bool
all_below count [] = true
all_below count (k ∷ sections) = nat_lt k count && all_below count sections

-- the instructions name only sections below a count
abbrev pub names_below : ℕ → List Instr → Bool
names_below count [] = true
names_below count (instr ∷ instrs) = all_below count (named_sections instr) && names_below count instrs

-- the instructions add exactly these fixups, in this order
abbrev pub Makes : List Fixup → List Instr → Type 0
Makes fixups instrs = trace instrs start ≡ fixups

-- a flat list makes the fixups, and none that makes them has fewer halfwords
pub record Least (fixups : List Fixup) (instrs : List Instr) : Type 0 where
  pub flat : is_flat instrs ≡ true
  pub makes : Makes fixups instrs
  pub shortest : (others : List Instr) → is_flat others ≡ true → Makes fixups others → program_length instrs ≤ program_length others
