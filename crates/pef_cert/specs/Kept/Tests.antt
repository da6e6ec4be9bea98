-- The tests of a fixup's labels, as a check goes through them.
use Rattle.std.specs.Prelude.{◌≡◌, ◌<◌, ℕ, ◌+◌, Bool, true, false, ◌&&◌, nat_le, List, [], ◌∷◌, length}
use Rattle.pef_reloc.specs.declared.fixup.Base.{Base}
use Rattle.pef_reloc.specs.declared.fixup.Base.TheVariants.{Section}
use Rattle.pef_reloc.specs.declared.fixup.Fixup.{Fixup}
use Rattle.pef_cert.specs.Fixups.Additions.{is_added}
use Rattle.pef_cert.specs.Labels.{Labels, class_of, classes}
use Rattle.pef_cert.specs.Extension.{extension}
use Rattle.pef_cert.specs.LabelTests.{adds_test, numbered_test, row_test, second_test}

-- the first of some fixups adds a base at a position
abbrev pub adds_first : ℕ → Base → List Fixup → Bool
adds_first p b [] = false
adds_first p b (f ∷ rest) = is_added p b f

-- the tests of all states
abbrev pub AllTests : Labels → ℕ → Fixup → List Fixup → Type 0
AllTests l index f rest = (c d : ℕ) → c < classes l → d < classes l → adds_test l index f rest c d ≡ true

-- the label of a state
abbrev pub label_of : Labels → Fixup → List Fixup → ℕ → ℕ → ℕ
label_of l f rest c d = l.label (length (f ∷ rest)) c d

-- the addition of a fixup alone, in this many halfwords: for a state, for those with register C in a class,
-- for all
abbrev pub single_test : Labels → ℕ → Fixup → List Fixup → ℕ → ℕ → Bool
single_test l cost f rest c d = nat_le (label_of l f rest c d) (cost + extension l rest (f.offset + 4) c d)

abbrev pub LineSingles : Labels → ℕ → Fixup → List Fixup → ℕ → Type 0
LineSingles l cost f rest c = (d : ℕ) → d < classes l → single_test l cost f rest c d ≡ true

abbrev pub AllSingles : Labels → ℕ → Fixup → List Fixup → Type 0
AllSingles l cost f rest = (c : ℕ) → c < classes l → LineSingles l cost f rest c

-- the runs that begin with a section in register C, and in register D
abbrev pub runs_of_c : Labels → ℕ → Fixup → List Fixup → ℕ → ℕ → Bool
runs_of_c l k f rest c d = row_test l (label_of l f rest c d) 4 (Section k) c d 512 f.offset (f ∷ rest) && second_test l (label_of l f rest c d) k c d f rest

abbrev pub runs_of_d : Labels → ℕ → Fixup → List Fixup → ℕ → ℕ → Bool
runs_of_d l k f rest c d = row_test l (label_of l f rest c d) 4 (Section k) c d 512 f.offset (f ∷ rest) && row_test l (label_of l f rest c d) 8 (Section k) c d 512 f.offset (f ∷ rest)

-- the runs of a section in all states in which a register holds it
abbrev pub SectionRuns : Labels → ℕ → Fixup → List Fixup → Type 0
SectionRuns l k f rest = (x : ℕ) → x < classes l → (runs_of_c l k f rest (class_of l.registers k) x ≡ true) × (runs_of_d l k f rest x (class_of l.registers k) ≡ true)

-- the runs that begin with an import: in the states with register C in a class, and in all
abbrev pub LineImports : Labels → ℕ → Fixup → List Fixup → ℕ → Type 0
LineImports l k f rest c = (d : ℕ) → d < classes l → numbered_test l (label_of l f rest c d) c d 512 f.offset k (f ∷ rest) ≡ true

abbrev pub ImportRuns : Labels → ℕ → Fixup → List Fixup → Type 0
ImportRuns l k f rest = (c : ℕ) → c < classes l → LineImports l k f rest c
