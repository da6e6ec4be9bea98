-- The tests of a label at a fixup. They are finitely many, one for each kind of instruction and each end.
use Rattle.std.specs.Prelude.{◌≡◌, ◌≤◌, ◌<◌, ℕ, zero, suc, ◌+◌, ◌==◌, Bool, true, false, ◌&&◌, ◌||◌, nat_le, nat_lt, if◌then◌else◌, List, [], ◌∷◌, length}
use Rattle.pef_reloc.specs.declared.fixup.Base.{Base}
use Rattle.pef_reloc.specs.declared.fixup.Base.TheVariants.{Section, Import}
use Rattle.pef_reloc.specs.declared.fixup.Fixup.{Fixup}
use Rattle.pef_cert.specs.Fixups.Additions.{is_added}
use Rattle.pef_cert.specs.Labels.{Labels, class_of, classes}
use Rattle.pef_cert.specs.Extension.{extension}

-- a test at one more word of a run that continues, and the tests of more
abbrev pub run_on : Bool → Bool → Bool → Bool
run_on true here more = here && more
run_on false here more = true

-- a label is at most 1 plus the extension
abbrev pub one_from : Labels → ℕ → List Fixup → ℕ → ℕ → ℕ → Bool
one_from l label rest p c d = nat_le label (1 + extension l rest p c d)

-- a label is at most 1 plus the extension after each run of a base, w bytes apart, of up to this many words
unfoldable pub row_test : Labels → ℕ → ℕ → Base → ℕ → ℕ → ℕ → ℕ → List Fixup → Bool
row_test l label w b c d zero p fixups = true
row_test l label w b c d (suc n) p [] = true
row_test l label w b c d (suc n) p (f ∷ rest) =
    run_on (is_added p b f) (one_from l label rest (p + w) c d) (row_test l label w b c d n (p + w) rest)

-- after each run of two bases side by side, w bytes apart, of up to this many pairs
unfoldable pub pairs_test : Labels → ℕ → ℕ → Base → Base → ℕ → ℕ → ℕ → ℕ → List Fixup → Bool
pairs_test l label w b b' c d zero p fixups = true
pairs_test l label w b b' c d (suc n) p [] = true
pairs_test l label w b b' c d (suc n) p (f ∷ []) = true
pairs_test l label w b b' c d (suc n) p (f ∷ g ∷ rest) =
    run_on (is_added p b f && is_added (p + 4) b' g) (one_from l label rest (p + w) c d) (pairs_test l label w b b' c d n (p + w) rest)

-- after each run of imports from m on, of up to this many
unfoldable pub numbered_test : Labels → ℕ → ℕ → ℕ → ℕ → ℕ → ℕ → List Fixup → Bool
numbered_test l label c d zero p m fixups = true
numbered_test l label c d (suc n) p m [] = true
numbered_test l label c d (suc n) p m (f ∷ rest) =
    run_on (is_added p (Import m) f) (one_from l label rest (p + 4) c d) (numbered_test l label c d n (p + 4) (m + 1) rest)

-- a test that is needed under a condition
abbrev pub asked : Bool → Bool → Bool
asked true test = test
asked false test = true

-- pairs that begin with section k and continue with another base
abbrev pub pair_test : Labels → ℕ → ℕ → ℕ → ℕ → ℕ → List Fixup → Base → Bool
pair_test l label k c d p fixups (Section j) =
    asked (class_of l.registers j == d) (pairs_test l label 8 (Section k) (Section j) c d 512 p fixups && pairs_test l label 12 (Section k) (Section j) c d 512 p fixups)
pair_test l label k c d p fixups (Import j) = true

abbrev pub second_test : Labels → ℕ → ℕ → ℕ → ℕ → Fixup → List Fixup → Bool
second_test l label k c d f [] = true
second_test l label k c d f (g ∷ rest) = pair_test l label k c d f.offset (f ∷ g ∷ rest) g.base

-- the halfwords of one import's addition
abbrev pub import_cost : ℕ → ℕ
import_cost k = if nat_lt k 512 then 1 else 2

-- the label of a state at a fixup, by the fixup's base
abbrev pub base_test : Labels → ℕ → ℕ → Fixup → List Fixup → ℕ → ℕ → Base → Bool
base_test l label index f rest c d (Section k) =
    one_from l label rest (f.offset + 4) c d
    && asked (class_of l.registers k == c || class_of l.registers k == d) (row_test l label 4 (Section k) c d 512 f.offset (f ∷ rest))
    && asked (class_of l.registers k == d) (row_test l label 8 (Section k) c d 512 f.offset (f ∷ rest))
    && asked (class_of l.registers k == c) (second_test l label k c d f rest)
base_test l label index f rest c d (Import k) =
    nat_le label (import_cost k + extension l rest (f.offset + 4) c d)
    && asked (k == index) (numbered_test l label c d 512 f.offset k (f ∷ rest))

abbrev pub adds_test : Labels → ℕ → Fixup → List Fixup → ℕ → ℕ → Bool
adds_test l index f rest c d = base_test l (l.label (length (f ∷ rest)) c d) index f rest c d f.base

-- the change of one register changes the labels with this many fixups left by at most 1
pub record SetsHold (l : Labels) (left : ℕ) : Type 0 where
  pub c_line : (c c' d : ℕ) → c < classes l → c' < classes l → d < classes l → l.label left c d ≤ 1 + l.label left c' d
  pub d_line : (c d d' : ℕ) → c < classes l → d < classes l → d' < classes l → l.label left c d ≤ 1 + l.label left c d'

-- all tests at a fixup
pub record TestsHold (l : Labels) (index : ℕ) (f : Fixup) (rest : List Fixup) : Type 0 where
  pub sets : SetsHold l (length (f ∷ rest))
  pub adds : (c d : ℕ) → c < classes l → d < classes l → adds_test l index f rest c d ≡ true
