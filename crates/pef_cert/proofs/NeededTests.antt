-- If labels are feasible at a fixup, the tests of a check hold.
use Rattle.std.proofs.Common.{◌≡◌, ℕ, suc, ◌+◌, ◌*◌, ◌<◌, ◌≤◌, inl, inr, Bool, true, false, cond, ◌&&◌, ◌||◌, ◌==◌, nat_le, nat_lt, List, [], ◌∷◌, ◌++◌, length, refl, ap, ◌∙◌, subst, arith, length-append}
use Rattle.std.proofs.lemmas.Bool.{and_from, eqb-true, le-leb, lt-ltb, ltb-true, or_cases}
use Rattle.pef_reloc.specs.declared.fixup.Base.{Base}
use Rattle.pef_reloc.specs.declared.fixup.Base.TheVariants.{Section, Import}
use Rattle.pef_reloc.specs.declared.fixup.Fixup.{Fixup}
use Rattle.pef_reloc.specs.declared.instr.Instr.{Instr}
use Rattle.pef_reloc.specs.declared.instr.Instr.TheVariants.{BySectC, BySectD, TVector12, TVector8, VTable8, ImportRun, SmByImport, SmBySection, LgByImport}
use Rattle.pef_reloc.specs.Deliveries.{is_flat_instr}
use Rattle.pef_reloc.specs.Fixups.{base_fits}
use Rattle.pef_reloc.specs.Instrs.{instr_length}
use Rattle.pef_reloc.specs.Limits.{most_imports, most_sections}
use Rattle.pef_reloc.specs.Steps.{State, added, additions, next_state, numbered, pairs, row}
use Rattle.pef_cert.specs.Labels.{Labels, class_of, classes}
use Rattle.pef_cert.specs.Extension.{extension, extension_at}
use Rattle.pef_cert.specs.Feasible.{FeasibleAt}
use Rattle.pef_cert.specs.LabelTests.{TestsHold, base_test, pair_test, pairs_test, row_test, second_test}
use Rattle.pef_cert.proofs.LabelFacts.{Stands, label-set_c, label-set_d}
use Rattle.pef_cert.proofs.RunLemmas.{numbered_test-met, pairs_test-met, row_test-met}
use Rattle.pef_cert.proofs.TestLemmas.{asked-met, import_tests-met, section_tests-met}

-- a fixup with its base known
fixup_is : (f : Fixup) (b : Base) → f.base ≡ b → f ≡ added f.offset b
fixup_is f b e = λ i. record { offset = f.offset; base = e i }

-- the consequence of feasible labels for an addition, in the classes of the numbers of a state
needed : (l : Labels) (index : ℕ) (f : Fixup) (rest left more : List Fixup) (a : Fixup) (c d c' d' : ℕ) (x : Instr) → FeasibleAt l index f rest → class_of l.registers c' ≡ c → class_of l.registers d' ≡ d → is_flat_instr x ≡ true → f ∷ rest ≡ additions x (record { position = f.offset; import_index = index; c = c'; d = d' }) ++ left → additions x (record { position = f.offset; import_index = index; c = c'; d = d' }) ≡ a ∷ more → (p : ℕ) → extension_at l left (next_state x (record { position = f.offset; import_index = index; c = c'; d = d' })) ≡ extension l left p (class_of l.registers c') (class_of l.registers d') → l.label (length (f ∷ rest)) c d ≤ instr_length x + extension l left p c d
needed l index f rest left more a c d c' d' x feasible is_c is_d flat words some p next =
    let s : State = record { position = f.offset; import_index = index; c = c'; d = d' } in
    let whole : f ∷ rest ≡ a ∷ (more ++ left) = words ∙ ap (λ made. made ++ left) some in
    let shorter : length left < length (f ∷ rest) = omega (arith, ap length whole, length-append more left) in
    let low = feasible.adds x s left (record { position = refl; index_is = refl }) flat (record { is = words }) shorter in
    let there : l.label (length (f ∷ rest)) (class_of l.registers c') (class_of l.registers d') ≤ instr_length x + extension l left p (class_of l.registers c') (class_of l.registers d') = omega (arith, low, next) in
    subst (λ (y : ℕ). l.label (length (f ∷ rest)) y d ≤ instr_length x + extension l left p y d) is_c
    (subst (λ (y : ℕ). l.label (length (f ∷ rest)) (class_of l.registers c') y ≤ instr_length x + extension l left p (class_of l.registers c') y) is_d there)

fits_run : (m : ℕ) → m < 512 → (nat_le 1 (suc m) && nat_le (suc m) 512) ≡ true
fits_run m under = and_from (nat_le 1 (suc m)) (nat_le (suc m) 512) (le-leb 1 (suc m) (omega arith)) (le-leb (suc m) 512 (omega arith))

needed_c : (l : Labels) (index : ℕ) (f : Fixup) (rest left : List Fixup) (c d c' d' m : ℕ) → FeasibleAt l index f rest → class_of l.registers c' ≡ c → class_of l.registers d' ≡ d → m < 512 → f ∷ rest ≡ row (suc m) f.offset 4 (Section c') ++ left → l.label (length (f ∷ rest)) c d ≤ 1 + extension l left (f.offset + 4 * suc m) c d
unfolding row
needed_c l index f rest left c d c' d' m feasible is_c is_d under words =
    needed l index f rest left (row m (f.offset + 4) 4 (Section c')) (added f.offset (Section c')) c d c' d' (BySectC (suc m)) feasible is_c is_d (fits_run m under) words refl (f.offset + 4 * suc m) refl

needed_d : (l : Labels) (index : ℕ) (f : Fixup) (rest left : List Fixup) (c d c' d' m : ℕ) → FeasibleAt l index f rest → class_of l.registers c' ≡ c → class_of l.registers d' ≡ d → m < 512 → f ∷ rest ≡ row (suc m) f.offset 4 (Section d') ++ left → l.label (length (f ∷ rest)) c d ≤ 1 + extension l left (f.offset + 4 * suc m) c d
unfolding row
needed_d l index f rest left c d c' d' m feasible is_c is_d under words =
    needed l index f rest left (row m (f.offset + 4) 4 (Section d')) (added f.offset (Section d')) c d c' d' (BySectD (suc m)) feasible is_c is_d (fits_run m under) words refl (f.offset + 4 * suc m) refl

needed_spaced : (l : Labels) (index : ℕ) (f : Fixup) (rest left : List Fixup) (c d c' d' m : ℕ) → FeasibleAt l index f rest → class_of l.registers c' ≡ c → class_of l.registers d' ≡ d → m < 512 → f ∷ rest ≡ row (suc m) f.offset 8 (Section d') ++ left → l.label (length (f ∷ rest)) c d ≤ 1 + extension l left (f.offset + 8 * suc m) c d
unfolding row
needed_spaced l index f rest left c d c' d' m feasible is_c is_d under words =
    needed l index f rest left (row m (f.offset + 8) 8 (Section d')) (added f.offset (Section d')) c d c' d' (VTable8 (suc m)) feasible is_c is_d (fits_run m under) words refl (f.offset + 8 * suc m) refl

needed_near : (l : Labels) (index : ℕ) (f : Fixup) (rest left : List Fixup) (c d c' d' m : ℕ) → FeasibleAt l index f rest → class_of l.registers c' ≡ c → class_of l.registers d' ≡ d → m < 512 → f ∷ rest ≡ pairs (suc m) f.offset 8 (Section c') (Section d') ++ left → l.label (length (f ∷ rest)) c d ≤ 1 + extension l left (f.offset + 8 * suc m) c d
unfolding pairs
needed_near l index f rest left c d c' d' m feasible is_c is_d under words =
    needed l index f rest left (added (f.offset + 4) (Section d') ∷ pairs m (f.offset + 8) 8 (Section c') (Section d')) (added f.offset (Section c')) c d c' d' (TVector8 (suc m)) feasible is_c is_d (fits_run m under) words refl (f.offset + 8 * suc m) refl

needed_far : (l : Labels) (index : ℕ) (f : Fixup) (rest left : List Fixup) (c d c' d' m : ℕ) → FeasibleAt l index f rest → class_of l.registers c' ≡ c → class_of l.registers d' ≡ d → m < 512 → f ∷ rest ≡ pairs (suc m) f.offset 12 (Section c') (Section d') ++ left → l.label (length (f ∷ rest)) c d ≤ 1 + extension l left (f.offset + 12 * suc m) c d
unfolding pairs
needed_far l index f rest left c d c' d' m feasible is_c is_d under words =
    needed l index f rest left (added (f.offset + 4) (Section d') ∷ pairs m (f.offset + 12) 12 (Section c') (Section d')) (added f.offset (Section c')) c d c' d' (TVector12 (suc m)) feasible is_c is_d (fits_run m under) words refl (f.offset + 12 * suc m) refl

needed_imports : (l : Labels) (index : ℕ) (f : Fixup) (rest left : List Fixup) (c d c' d' m : ℕ) → FeasibleAt l index f rest → class_of l.registers c' ≡ c → class_of l.registers d' ≡ d → m < 512 → f ∷ rest ≡ numbered (suc m) f.offset index ++ left → l.label (length (f ∷ rest)) c d ≤ 1 + extension l left (f.offset + 4 * suc m) c d
unfolding numbered
needed_imports l index f rest left c d c' d' m feasible is_c is_d under words =
    needed l index f rest left (numbered m (f.offset + 4) (index + 1)) (added f.offset (Import index)) c d c' d' (ImportRun (suc m)) feasible is_c is_d (fits_run m under) words refl (f.offset + 4 * suc m) refl

words_needed : (l : Labels) (index : ℕ) (f : Fixup) (rest : List Fixup) (c d k : ℕ) → Stands l index f rest → c < classes l → d < classes l → (class_of l.registers k == c || class_of l.registers k == d) ≡ true → row_test l (l.label (length (f ∷ rest)) c d) 4 (Section k) c d 512 f.offset (f ∷ rest) ≡ true
words_needed l index f rest c d k stands under_c under_d either =
    let for_c = stands.numbers.of c under_c in
    let for_d = stands.numbers.of d under_d in
    elim (or_cases (class_of l.registers k == c) (class_of l.registers k == d) either) [
      | inl is_c ↦ row_test-met l (l.label (length (f ∷ rest)) c d) 4 (Section k) c d 512 f.offset (f ∷ rest)
          (λ m left under words. needed_c l index f rest left c d k for_d.number m stands.feasible (eqb-true (class_of l.registers k) c is_c) for_d.is under words)
      | inr is_d ↦ row_test-met l (l.label (length (f ∷ rest)) c d) 4 (Section k) c d 512 f.offset (f ∷ rest)
          (λ m left under words. needed_d l index f rest left c d for_c.number k m stands.feasible for_c.is (eqb-true (class_of l.registers k) d is_d) under words)
    ]

spaced_needed : (l : Labels) (index : ℕ) (f : Fixup) (rest : List Fixup) (c d k : ℕ) → Stands l index f rest → c < classes l → (class_of l.registers k == d) ≡ true → row_test l (l.label (length (f ∷ rest)) c d) 8 (Section k) c d 512 f.offset (f ∷ rest) ≡ true
spaced_needed l index f rest c d k stands under_c is_d =
    let for_c = stands.numbers.of c under_c in
    row_test-met l (l.label (length (f ∷ rest)) c d) 8 (Section k) c d 512 f.offset (f ∷ rest)
    (λ m left under words. needed_spaced l index f rest left c d for_c.number k m stands.feasible for_c.is (eqb-true (class_of l.registers k) d is_d) under words)

pair_needed : (l : Labels) (index : ℕ) (f : Fixup) (rest : List Fixup) (c d k : ℕ) (b : Base) → Stands l index f rest → (class_of l.registers k == c) ≡ true → pair_test l (l.label (length (f ∷ rest)) c d) k c d f.offset (f ∷ rest) b ≡ true
pair_needed l index f rest c d k (Section j) stands is_c =
    asked-met (class_of l.registers j == d) (pairs_test l (l.label (length (f ∷ rest)) c d) 8 (Section k) (Section j) c d 512 f.offset (f ∷ rest) && pairs_test l (l.label (length (f ∷ rest)) c d) 12 (Section k) (Section j) c d 512 f.offset (f ∷ rest))
    (λ is_d. and_from (pairs_test l (l.label (length (f ∷ rest)) c d) 8 (Section k) (Section j) c d 512 f.offset (f ∷ rest)) (pairs_test l (l.label (length (f ∷ rest)) c d) 12 (Section k) (Section j) c d 512 f.offset (f ∷ rest))
    (pairs_test-met l (l.label (length (f ∷ rest)) c d) 8 (Section k) (Section j) c d 512 f.offset (f ∷ rest)
    (λ m left under words. needed_near l index f rest left c d k j m stands.feasible (eqb-true (class_of l.registers k) c is_c) (eqb-true (class_of l.registers j) d is_d) under words))
    (pairs_test-met l (l.label (length (f ∷ rest)) c d) 12 (Section k) (Section j) c d 512 f.offset (f ∷ rest)
    (λ m left under words. needed_far l index f rest left c d k j m stands.feasible (eqb-true (class_of l.registers k) c is_c) (eqb-true (class_of l.registers j) d is_d) under words)))
pair_needed l index f rest c d k (Import j) stands is_c = refl

second_needed : (l : Labels) (index : ℕ) (f : Fixup) (rest : List Fixup) (c d k : ℕ) → Stands l index f rest → (class_of l.registers k == c) ≡ true → second_test l (l.label (length (f ∷ rest)) c d) k c d f rest ≡ true
second_needed l index f [] c d k stands is_c = refl
second_needed l index f (g ∷ rest) c d k stands is_c = pair_needed l index f (g ∷ rest) c d k g.base stands is_c

section_needed : (l : Labels) (index : ℕ) (f : Fixup) (rest : List Fixup) (c d k : ℕ) → Stands l index f rest → f.base ≡ Section k → k < most_sections → c < classes l → d < classes l → base_test l (l.label (length (f ∷ rest)) c d) index f rest c d (Section k) ≡ true
section_needed l index f rest c d k stands base small under_c under_d =
    let for_c = stands.numbers.of c under_c in
    let for_d = stands.numbers.of d under_d in
    let word = fixup_is f (Section k) base in
    let single = needed l index f rest rest [] (added f.offset (Section k)) c d for_c.number for_d.number (SmBySection k) stands.feasible for_c.is for_d.is (lt-ltb k 512 (omega arith)) (ap (λ g. g ∷ rest) word) refl (f.offset + 4) refl in
    section_tests-met l (l.label (length (f ∷ rest)) c d) index k f rest c d (record {
      single = le-leb (l.label (length (f ∷ rest)) c d) (1 + extension l rest (f.offset + 4) c d) single;
      words = words_needed l index f rest c d k stands under_c under_d;
      spaced = spaced_needed l index f rest c d k stands under_c;
      second = second_needed l index f rest c d k stands;
    })

import_single : (l : Labels) (index : ℕ) (f : Fixup) (rest : List Fixup) (c d k : ℕ) (b : Bool) → Stands l index f rest → f.base ≡ Import k → k < most_imports → nat_lt k 512 ≡ b → c < classes l → d < classes l → l.label (length (f ∷ rest)) c d ≤ cond b 1 2 + extension l rest (f.offset + 4) c d
import_single l index f rest c d k true stands base small is under_c under_d =
    let for_c = stands.numbers.of c under_c in
    let for_d = stands.numbers.of d under_d in
    needed l index f rest rest [] (added f.offset (Import k)) c d for_c.number for_d.number (SmByImport k) stands.feasible for_c.is for_d.is is (ap (λ g. g ∷ rest) (fixup_is f (Import k) base)) refl (f.offset + 4) refl
import_single l index f rest c d k false stands base small is under_c under_d =
    let for_c = stands.numbers.of c under_c in
    let for_d = stands.numbers.of d under_d in
    needed l index f rest rest [] (added f.offset (Import k)) c d for_c.number for_d.number (LgByImport k) stands.feasible for_c.is for_d.is (lt-ltb k 0x4000000 (omega arith)) (ap (λ g. g ∷ rest) (fixup_is f (Import k) base)) refl (f.offset + 4) refl

import_needed : (l : Labels) (index : ℕ) (f : Fixup) (rest : List Fixup) (c d k : ℕ) → Stands l index f rest → f.base ≡ Import k → k < most_imports → c < classes l → d < classes l → base_test l (l.label (length (f ∷ rest)) c d) index f rest c d (Import k) ≡ true
import_needed l index f rest c d k stands base small under_c under_d =
    let for_c = stands.numbers.of c under_c in
    let for_d = stands.numbers.of d under_d in
    import_tests-met l (l.label (length (f ∷ rest)) c d) index k f rest c d (record {
      single = import_single l index f rest c d k (nat_lt k 512) stands base small refl under_c under_d;
      imports = λ is. numbered_test-met l (l.label (length (f ∷ rest)) c d) c d 512 f.offset k (f ∷ rest)
          (λ m left under words. needed_imports l index f rest left c d for_c.number for_d.number m stands.feasible for_c.is for_d.is under
          (words ∙ ap (λ i. numbered (suc m) f.offset i ++ left) (eqb-true k index is)));
    })

base_needed : (l : Labels) (index : ℕ) (f : Fixup) (rest : List Fixup) (c d : ℕ) (b : Base) → Stands l index f rest → f.base ≡ b → base_fits b ≡ true → c < classes l → d < classes l → base_test l (l.label (length (f ∷ rest)) c d) index f rest c d b ≡ true
base_needed l index f rest c d (Section k) stands base fits under_c under_d = section_needed l index f rest c d k stands base (ltb-true k most_sections fits) under_c under_d
base_needed l index f rest c d (Import k) stands base fits under_c under_d = import_needed l index f rest c d k stands base (ltb-true k most_imports fits) under_c under_d

-- the tests hold if labels are feasible
pub tests_needed : (l : Labels) (index : ℕ) (f : Fixup) (rest : List Fixup) → Stands l index f rest → base_fits f.base ≡ true → TestsHold l index f rest
tests_needed l index f rest stands fits = record {
  sets = record {
    c_line = λ c c' d under_c under_c' under_d. label-set_c l index f rest c c' d stands under_c under_c' under_d;
    d_line = λ c d d' under_c under_d under_d'. label-set_d l index f rest c d d' stands under_c under_d under_d';
  };
  adds = λ c d under_c under_d. base_needed l index f rest c d f.base stands refl fits under_c under_d;
}
