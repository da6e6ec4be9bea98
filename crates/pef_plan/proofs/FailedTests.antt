-- If a test of a label fails, an instruction leads on within fewer halfwords.
use Rattle.std.proofs.Common.{◌≡◌, ℕ, zero, suc, ◌+◌, ◌*◌, ◌<◌, ◌≤◌, ◌⊎◌, inl, inr, Bool, true, false, cond, ◌&&◌, ◌||◌, ◌==◌, nat_le, nat_lt, List, [], ◌∷◌, ◌++◌, length, refl, ap, ap₂, sym, ◌∙◌, arith, length-append}
use Rattle.std.specs.List.{AllByRecursion}
use Rattle.std.proofs.lemmas.Bool.{and_cases, and_parts, eqb-true, leb-false, lt-ltb, ltb-true, or_cases}
use Rattle.pef_reloc.specs.declared.fixup.Base.{Base}
use Rattle.pef_reloc.specs.declared.fixup.Base.TheVariants.{Section, Import}
use Rattle.pef_reloc.specs.declared.fixup.Fixup.{Fixup}
use Rattle.pef_reloc.specs.declared.instr.Instr.{Instr}
use Rattle.pef_reloc.specs.declared.instr.Instr.TheVariants.{BySectC, BySectD, TVector12, TVector8, VTable8, ImportRun, SmByImport, SmBySection, LgByImport}
use Rattle.pef_reloc.specs.Deliveries.{is_flat_instr}
use Rattle.pef_reloc.specs.Fixups.{base_fits}
use Rattle.pef_reloc.specs.Instrs.{instr_length}
use Rattle.pef_reloc.specs.Limits.{most_imports, most_sections}
use Rattle.pef_reloc.specs.Steps.{State, added, additions, next_state, numbered, pairs, row}
use Rattle.pef_cert.specs.Fixups.Additions.{is_added}
use Rattle.pef_cert.specs.Labels.{Labels, class_of}
use Rattle.pef_cert.specs.Extension.{extension, extension_at}
use Rattle.pef_cert.specs.LabelTests.{asked, base_test, import_cost, numbered_test, one_from, pair_test, pairs_test, row_test, run_on, second_test}
use Rattle.pef_cert.proofs.Laws.{RegisteredBase, class_of-same, is_added-is}
use Rattle.pef_words.proofs.Laws.Numbers.{counts_fit}

-- an instruction adds at least the first fixup. Its halfwords and the extension after it are at most a number
pub record AddsWithin (l : Labels) (s : State) (f : Fixup) (rest : List Fixup) (n : ℕ) : Type 0 where
  pub instr : Instr
  pub left : List Fixup
  pub flat : is_flat_instr instr ≡ true
  pub parts : f ∷ rest ≡ additions instr s ++ left
  pub shorter : length left ≤ length rest
  pub falls : instr_length instr + extension_at l left (next_state instr s) ≤ n

-- if an instruction adds a fixup and others, it adds at least the first
adds_within : (l : Labels) (s : State) (f : Fixup) (rest : List Fixup) (n : ℕ) (x : Instr) (a : Fixup) (more left : List Fixup) → is_flat_instr x ≡ true → f ∷ rest ≡ additions x s ++ left → additions x s ≡ a ∷ more → instr_length x + extension_at l left (next_state x s) ≤ n → AddsWithin l s f rest n
adds_within l s f rest n x a more left flat parts some falls =
    let whole : f ∷ rest ≡ a ∷ (more ++ left) = parts ∙ ap (λ made. made ++ left) some in
    record {
      instr = x;
      left = left;
      flat = flat;
      parts = parts;
      shorter = omega (arith, ap length whole, length-append more left);
      falls = falls;
    }

-- the parts of a test that fails
run_on_fails : (b here more : Bool) → run_on b here more ≡ false → (b ≡ true) × ((here ≡ false) ⊎ (more ≡ false))
run_on_fails true here more e = (refl, and_cases here more e)
run_on_fails false here more e = absurd (cc)

one_fails : (l : Labels) (v : ℕ) (rest : List Fixup) (p c d : ℕ) → one_from l (suc v) rest p c d ≡ false → 1 + extension l rest p c d ≤ v
one_fails l v rest p c d e = let low = leb-false (suc v) (1 + extension l rest p c d) e in omega (arith, low)

asked_fails : (b test : Bool) → asked b test ≡ false → (b ≡ true) × (test ≡ false)
asked_fails true test e = (refl, e)
asked_fails false test e = absurd (cc)

-- the end of a run, with 1 plus the extension there at most a number: for rows of words, pairs and imports
record RowEnd (l : Labels) (v w : ℕ) (b : Base) (c d n p : ℕ) (fixups : List Fixup) : Type 0 where
  more : ℕ
  left : List Fixup
  under : more < n
  words : fixups ≡ row (suc more) p w b ++ left
  low : 1 + extension l left (p + w * suc more) c d ≤ v

row_fails : (l : Labels) (v w : ℕ) (b : Base) (c d n p : ℕ) (fixups : List Fixup) → row_test l (suc v) w b c d n p fixups ≡ false → RowEnd l v w b c d n p fixups
unfolding row_test row
row_fails l v w b c d zero p fixups e = absurd (cc)
row_fails l v w b c d (suc n) p [] e = absurd (cc)
row_fails l v w b c d (suc n) p (f ∷ rest) e =
    let parts = run_on_fails (is_added p b f) (one_from l (suc v) rest (p + w) c d) (row_test l (suc v) w b c d n (p + w) rest) e in
    let first = is_added-is p b f parts.0 in
    elim parts.1 [
      | inl here ↦
          (let low = one_fails l v rest (p + w) c d here in
          let end : p + w * 1 ≡ p + w = omega arith in
          let same = ap (λ q. extension l rest q c d) end in
          record { more = 0; left = rest; under = omega arith; words = ap (λ g. g ∷ rest) first; low = omega (arith, low, same) })
      | inr others ↦
          (let later = row_fails l v w b c d n (p + w) rest others in
          let end : p + w * suc (suc later.more) ≡ p + w + w * suc later.more = omega arith in
          let same = ap (λ q. extension l later.left q c d) end in
          let low = later.low in
          record { more = suc later.more; left = later.left; under = omega (arith, later.under); words = ap (λ g. g ∷ rest) first ∙ ap (λ fs. added p b ∷ fs) later.words; low = omega (arith, low, same) })
    ]

record PairsEnd (l : Labels) (v w : ℕ) (b b' : Base) (c d n p : ℕ) (fixups : List Fixup) : Type 0 where
  more : ℕ
  left : List Fixup
  under : more < n
  words : fixups ≡ pairs (suc more) p w b b' ++ left
  low : 1 + extension l left (p + w * suc more) c d ≤ v

pairs_fail : (l : Labels) (v w : ℕ) (b b' : Base) (c d n p : ℕ) (fixups : List Fixup) → pairs_test l (suc v) w b b' c d n p fixups ≡ false → PairsEnd l v w b b' c d n p fixups
unfolding pairs_test pairs
pairs_fail l v w b b' c d zero p fixups e = absurd (cc)
pairs_fail l v w b b' c d (suc n) p [] e = absurd (cc)
pairs_fail l v w b b' c d (suc n) p (f ∷ []) e = absurd (cc)
pairs_fail l v w b b' c d (suc n) p (f ∷ g ∷ rest) e =
    let parts = run_on_fails (is_added p b f && is_added (p + 4) b' g) (one_from l (suc v) rest (p + w) c d) (pairs_test l (suc v) w b b' c d n (p + w) rest) e in
    let both = and_parts (is_added p b f) (is_added (p + 4) b' g) parts.0 in
    let two : f ∷ g ∷ rest ≡ added p b ∷ added (p + 4) b' ∷ rest = ap₂ (λ x y. x ∷ y ∷ rest) (is_added-is p b f both.0) (is_added-is (p + 4) b' g both.1) in
    elim parts.1 [
      | inl here ↦
          (let low = one_fails l v rest (p + w) c d here in
          let end : p + w * 1 ≡ p + w = omega arith in
          let same = ap (λ q. extension l rest q c d) end in
          record { more = 0; left = rest; under = omega arith; words = two; low = omega (arith, low, same) })
      | inr others ↦
          (let later = pairs_fail l v w b b' c d n (p + w) rest others in
          let end : p + w * suc (suc later.more) ≡ p + w + w * suc later.more = omega arith in
          let same = ap (λ q. extension l later.left q c d) end in
          let low = later.low in
          record { more = suc later.more; left = later.left; under = omega (arith, later.under); words = two ∙ ap (λ fs. added p b ∷ added (p + 4) b' ∷ fs) later.words; low = omega (arith, low, same) })
    ]

record ImportsEnd (l : Labels) (v c d n p i : ℕ) (fixups : List Fixup) : Type 0 where
  more : ℕ
  left : List Fixup
  under : more < n
  words : fixups ≡ numbered (suc more) p i ++ left
  low : 1 + extension l left (p + 4 * suc more) c d ≤ v

imports_fail : (l : Labels) (v c d n p i : ℕ) (fixups : List Fixup) → numbered_test l (suc v) c d n p i fixups ≡ false → ImportsEnd l v c d n p i fixups
unfolding numbered_test numbered
imports_fail l v c d zero p i fixups e = absurd (cc)
imports_fail l v c d (suc n) p i [] e = absurd (cc)
imports_fail l v c d (suc n) p i (f ∷ rest) e =
    let parts = run_on_fails (is_added p (Import i) f) (one_from l (suc v) rest (p + 4) c d) (numbered_test l (suc v) c d n (p + 4) (i + 1) rest) e in
    let first = is_added-is p (Import i) f parts.0 in
    elim parts.1 [
      | inl here ↦
          (let low = one_fails l v rest (p + 4) c d here in
          let end : p + 4 * 1 ≡ p + 4 = omega arith in
          let same = ap (λ q. extension l rest q c d) end in
          record { more = 0; left = rest; under = omega arith; words = ap (λ g. g ∷ rest) first; low = omega (arith, low, same) })
      | inr others ↦
          (let later = imports_fail l v c d n (p + 4) (i + 1) rest others in
          let end : p + 4 * suc (suc later.more) ≡ p + 4 + 4 * suc later.more = omega arith in
          let same = ap (λ q. extension l later.left q c d) end in
          let low = later.low in
          record { more = suc later.more; left = later.left; under = omega (arith, later.under); words = ap (λ g. g ∷ rest) first ∙ ap (λ fs. added p (Import i) ∷ fs) later.words; low = omega (arith, low, same) })
    ]

-- the classes in the registers of a state
abbrev c_class : Labels → State → ℕ
c_class l s = class_of l.registers s.c

abbrev d_class : Labels → State → ℕ
d_class l s = class_of l.registers s.d

-- the instruction of each kind of run
words_c : (l : Labels) (s : State) (f : Fixup) (rest : List Fixup) (v k : ℕ) → s.position ≡ f.offset → s.c ≡ k → RowEnd l v 4 (Section k) (c_class l s) (d_class l s) 512 f.offset (f ∷ rest) → AddsWithin l s f rest v
unfolding row
words_c l s f rest v k at is e =
    let there : f ∷ rest ≡ row (suc e.more) s.position 4 (Section s.c) ++ e.left = e.words ∙ ap₂ (λ q j. row (suc e.more) q 4 (Section j) ++ e.left) (sym at) (sym is) in
    let same = ap (λ q. extension l e.left (q + 4 * suc e.more) (c_class l s) (d_class l s)) at in
    let low = e.low in
    adds_within l s f rest v (BySectC (suc e.more)) (added s.position (Section s.c)) (row e.more (s.position + 4) 4 (Section s.c)) e.left (counts_fit 512 (suc e.more) (omega arith) (omega (arith, e.under))) there refl (omega (arith, low, same))

words_d : (l : Labels) (s : State) (f : Fixup) (rest : List Fixup) (v k : ℕ) → s.position ≡ f.offset → s.d ≡ k → RowEnd l v 4 (Section k) (c_class l s) (d_class l s) 512 f.offset (f ∷ rest) → AddsWithin l s f rest v
unfolding row
words_d l s f rest v k at is e =
    let there : f ∷ rest ≡ row (suc e.more) s.position 4 (Section s.d) ++ e.left = e.words ∙ ap₂ (λ q j. row (suc e.more) q 4 (Section j) ++ e.left) (sym at) (sym is) in
    let same = ap (λ q. extension l e.left (q + 4 * suc e.more) (c_class l s) (d_class l s)) at in
    let low = e.low in
    adds_within l s f rest v (BySectD (suc e.more)) (added s.position (Section s.d)) (row e.more (s.position + 4) 4 (Section s.d)) e.left (counts_fit 512 (suc e.more) (omega arith) (omega (arith, e.under))) there refl (omega (arith, low, same))

spaced : (l : Labels) (s : State) (f : Fixup) (rest : List Fixup) (v k : ℕ) → s.position ≡ f.offset → s.d ≡ k → RowEnd l v 8 (Section k) (c_class l s) (d_class l s) 512 f.offset (f ∷ rest) → AddsWithin l s f rest v
unfolding row
spaced l s f rest v k at is e =
    let there : f ∷ rest ≡ row (suc e.more) s.position 8 (Section s.d) ++ e.left = e.words ∙ ap₂ (λ q j. row (suc e.more) q 8 (Section j) ++ e.left) (sym at) (sym is) in
    let same = ap (λ q. extension l e.left (q + 8 * suc e.more) (c_class l s) (d_class l s)) at in
    let low = e.low in
    adds_within l s f rest v (VTable8 (suc e.more)) (added s.position (Section s.d)) (row e.more (s.position + 8) 8 (Section s.d)) e.left (counts_fit 512 (suc e.more) (omega arith) (omega (arith, e.under))) there refl (omega (arith, low, same))

near_pairs : (l : Labels) (s : State) (f : Fixup) (rest : List Fixup) (v k j : ℕ) → s.position ≡ f.offset → s.c ≡ k → s.d ≡ j → PairsEnd l v 8 (Section k) (Section j) (c_class l s) (d_class l s) 512 f.offset (f ∷ rest) → AddsWithin l s f rest v
unfolding pairs
near_pairs l s f rest v k j at is also e =
    let first : f ∷ rest ≡ pairs (suc e.more) s.position 8 (Section s.c) (Section j) ++ e.left = e.words ∙ ap₂ (λ q i. pairs (suc e.more) q 8 (Section i) (Section j) ++ e.left) (sym at) (sym is) in
    let there : f ∷ rest ≡ pairs (suc e.more) s.position 8 (Section s.c) (Section s.d) ++ e.left = first ∙ ap (λ i. pairs (suc e.more) s.position 8 (Section s.c) (Section i) ++ e.left) (sym also) in
    let same = ap (λ q. extension l e.left (q + 8 * suc e.more) (c_class l s) (d_class l s)) at in
    let low = e.low in
    adds_within l s f rest v (TVector8 (suc e.more)) (added s.position (Section s.c)) (added (s.position + 4) (Section s.d) ∷ pairs e.more (s.position + 8) 8 (Section s.c) (Section s.d)) e.left (counts_fit 512 (suc e.more) (omega arith) (omega (arith, e.under))) there refl (omega (arith, low, same))

far_pairs : (l : Labels) (s : State) (f : Fixup) (rest : List Fixup) (v k j : ℕ) → s.position ≡ f.offset → s.c ≡ k → s.d ≡ j → PairsEnd l v 12 (Section k) (Section j) (c_class l s) (d_class l s) 512 f.offset (f ∷ rest) → AddsWithin l s f rest v
unfolding pairs
far_pairs l s f rest v k j at is also e =
    let first : f ∷ rest ≡ pairs (suc e.more) s.position 12 (Section s.c) (Section j) ++ e.left = e.words ∙ ap₂ (λ q i. pairs (suc e.more) q 12 (Section i) (Section j) ++ e.left) (sym at) (sym is) in
    let there : f ∷ rest ≡ pairs (suc e.more) s.position 12 (Section s.c) (Section s.d) ++ e.left = first ∙ ap (λ i. pairs (suc e.more) s.position 12 (Section s.c) (Section i) ++ e.left) (sym also) in
    let same = ap (λ q. extension l e.left (q + 12 * suc e.more) (c_class l s) (d_class l s)) at in
    let low = e.low in
    adds_within l s f rest v (TVector12 (suc e.more)) (added s.position (Section s.c)) (added (s.position + 4) (Section s.d) ∷ pairs e.more (s.position + 12) 12 (Section s.c) (Section s.d)) e.left (counts_fit 512 (suc e.more) (omega arith) (omega (arith, e.under))) there refl (omega (arith, low, same))

imports_run : (l : Labels) (s : State) (f : Fixup) (rest : List Fixup) (v : ℕ) → s.position ≡ f.offset → ImportsEnd l v (c_class l s) (d_class l s) 512 f.offset s.import_index (f ∷ rest) → AddsWithin l s f rest v
unfolding numbered
imports_run l s f rest v at e =
    let there : f ∷ rest ≡ numbered (suc e.more) s.position s.import_index ++ e.left = e.words ∙ ap (λ q. numbered (suc e.more) q s.import_index ++ e.left) (sym at) in
    let same = ap (λ q. extension l e.left (q + 4 * suc e.more) (c_class l s) (d_class l s)) at in
    let low = e.low in
    adds_within l s f rest v (ImportRun (suc e.more)) (added s.position (Import s.import_index)) (numbered e.more (s.position + 4) (s.import_index + 1)) e.left (counts_fit 512 (suc e.more) (omega arith) (omega (arith, e.under))) there refl (omega (arith, low, same))

-- the addition of the fixup alone
added_alone : (s : State) (f : Fixup) (rest : List Fixup) (b : Base) → s.position ≡ f.offset → f.base ≡ b → f ∷ rest ≡ added s.position b ∷ rest
added_alone s f rest b at base = ap (λ g. g ∷ rest) (λ i. record { offset = sym at i; base = base i })

section_alone : (l : Labels) (s : State) (f : Fixup) (rest : List Fixup) (v k : ℕ) → s.position ≡ f.offset → f.base ≡ Section k → k < most_sections → 1 + extension l rest (f.offset + 4) (c_class l s) (d_class l s) ≤ v → AddsWithin l s f rest v
section_alone l s f rest v k at base small low =
    let same = ap (λ q. extension l rest (q + 4) (c_class l s) (d_class l s)) at in
    adds_within l s f rest v (SmBySection k) (added s.position (Section k)) [] rest (lt-ltb k 512 (omega (arith, small))) (added_alone s f rest (Section k) at base) refl (omega (arith, low, same))

import_alone : (l : Labels) (s : State) (f : Fixup) (rest : List Fixup) (v k : ℕ) (few : Bool) → nat_lt k 512 ≡ few → s.position ≡ f.offset → f.base ≡ Import k → k < most_imports → cond few 1 2 + extension l rest (f.offset + 4) (c_class l s) (d_class l s) ≤ v → AddsWithin l s f rest v
import_alone l s f rest v k true is at base small low =
    let same = ap (λ q. extension l rest (q + 4) (c_class l s) (d_class l s)) at in
    adds_within l s f rest v (SmByImport k) (added s.position (Import k)) [] rest is (added_alone s f rest (Import k) at base) refl (omega (arith, low, same))
import_alone l s f rest v k false is at base small low =
    let same = ap (λ q. extension l rest (q + 4) (c_class l s) (d_class l s)) at in
    adds_within l s f rest v (LgByImport k) (added s.position (Import k)) [] rest (lt-ltb k 0x4000000 (omega (arith, small))) (added_alone s f rest (Import k) at base) refl (omega (arith, low, same))

-- the pairs that begin with a section in register C
pair_fails : (l : Labels) (s : State) (f : Fixup) (rest : List Fixup) (v k : ℕ) (b : Base) → s.position ≡ f.offset → s.c ≡ k → RegisteredBase l.registers b → pair_test l (suc v) k (c_class l s) (d_class l s) f.offset (f ∷ rest) b ≡ false → AddsWithin l s f rest v
pair_fails l s f rest v k (Section j) at is counts e =
    let near = pairs_test l (suc v) 8 (Section k) (Section j) (c_class l s) (d_class l s) 512 f.offset (f ∷ rest) in
    let far = pairs_test l (suc v) 12 (Section k) (Section j) (c_class l s) (d_class l s) 512 f.offset (f ∷ rest) in
    let held = asked_fails (class_of l.registers j == d_class l s) (near && far) e in
    let also = class_of-same l.registers s.d j (sym (eqb-true (class_of l.registers j) (d_class l s) held.0)) counts in
    elim (and_cases near far held.1) [
      | inl fails ↦ near_pairs l s f rest v k j at is also (pairs_fail l v 8 (Section k) (Section j) (c_class l s) (d_class l s) 512 f.offset (f ∷ rest) fails)
      | inr fails ↦ far_pairs l s f rest v k j at is also (pairs_fail l v 12 (Section k) (Section j) (c_class l s) (d_class l s) 512 f.offset (f ∷ rest) fails)
    ]
pair_fails l s f rest v k (Import j) at is counts e = absurd (cc)

second_fails : (l : Labels) (s : State) (f : Fixup) (rest : List Fixup) (v k : ℕ) → s.position ≡ f.offset → s.c ≡ k → AllByRecursion (λ (g : Fixup). RegisteredBase l.registers g.base) rest → second_test l (suc v) k (c_class l s) (d_class l s) f rest ≡ false → AddsWithin l s f rest v
second_fails l s f [] v k at is counts e = absurd (cc)
second_fails l s f (g ∷ rest) v k at is counts e = pair_fails l s f (g ∷ rest) v k g.base at is counts.0 e

section_fails : (l : Labels) (s : State) (f : Fixup) (rest : List Fixup) (v index k : ℕ) → s.position ≡ f.offset → f.base ≡ Section k → k < most_sections → class_of l.registers k < length l.registers → AllByRecursion (λ (g : Fixup). RegisteredBase l.registers g.base) rest → base_test l (suc v) index f rest (c_class l s) (d_class l s) (Section k) ≡ false → AddsWithin l s f rest v
section_fails l s f rest v index k at base small counts others e =
    let c = c_class l s in
    let d = d_class l s in
    let class = class_of l.registers k in
    let single = one_from l (suc v) rest (f.offset + 4) c d in
    let words = row_test l (suc v) 4 (Section k) c d 512 f.offset (f ∷ rest) in
    let apart = row_test l (suc v) 8 (Section k) c d 512 f.offset (f ∷ rest) in
    let second = second_test l (suc v) k c d f rest in
    let held_c : (class == c) ≡ true → s.c ≡ k = λ is. class_of-same l.registers s.c k (sym (eqb-true class c is)) counts in
    let held_d : (class == d) ≡ true → s.d ≡ k = λ is. class_of-same l.registers s.d k (sym (eqb-true class d is)) counts in
    elim (and_cases (single && asked (class == c || class == d) words && asked (class == d) apart) (asked (class == c) second) e) [
      | inl three ↦ elim (and_cases (single && asked (class == c || class == d) words) (asked (class == d) apart) three) [
        | inl two ↦ elim (and_cases single (asked (class == c || class == d) words) two) [
          | inl one ↦ section_alone l s f rest v k at base small (one_fails l v rest (f.offset + 4) c d one)
          | inr fails ↦
              (let held = asked_fails (class == c || class == d) words fails in
              let end = row_fails l v 4 (Section k) c d 512 f.offset (f ∷ rest) held.1 in
              elim (or_cases (class == c) (class == d) held.0) [
                | inl is ↦ words_c l s f rest v k at (held_c is) end
                | inr is ↦ words_d l s f rest v k at (held_d is) end
              ])
        ]
        | inr fails ↦
            (let held = asked_fails (class == d) apart fails in
            spaced l s f rest v k at (held_d held.0) (row_fails l v 8 (Section k) c d 512 f.offset (f ∷ rest) held.1))
      ]
      | inr fails ↦ (let held = asked_fails (class == c) second fails in second_fails l s f rest v k at (held_c held.0) others held.1)
    ]

import_fails : (l : Labels) (s : State) (f : Fixup) (rest : List Fixup) (v k : ℕ) → s.position ≡ f.offset → f.base ≡ Import k → k < most_imports → base_test l (suc v) s.import_index f rest (c_class l s) (d_class l s) (Import k) ≡ false → AddsWithin l s f rest v
import_fails l s f rest v k at base small e =
    let c = c_class l s in
    let d = d_class l s in
    let most = import_cost k + extension l rest (f.offset + 4) c d in
    let run = numbered_test l (suc v) c d 512 f.offset k (f ∷ rest) in
    elim (and_cases (nat_le (suc v) most) (asked (k == s.import_index) run) e) [
      | inl one ↦ (let low = leb-false (suc v) most one in import_alone l s f rest v k (nat_lt k 512) refl at base small (omega (arith, low)))
      | inr fails ↦
          (let held = asked_fails (k == s.import_index) run fails in
          let is = eqb-true k s.import_index held.0 in
          imports_run l s f rest v at (imports_fail l v c d 512 f.offset s.import_index (f ∷ rest) (ap (λ i. numbered_test l (suc v) c d 512 f.offset i (f ∷ rest)) (sym is) ∙ held.1)))
    ]

-- if the tests of a fixup's label fail for a number, an instruction that adds at the fixup leads on within fewer
-- halfwords
fails_by : (l : Labels) (s : State) (f : Fixup) (rest : List Fixup) (v : ℕ) (b : Base) → s.position ≡ f.offset → f.base ≡ b → base_fits b ≡ true → RegisteredBase l.registers b → AllByRecursion (λ (g : Fixup). RegisteredBase l.registers g.base) rest → base_test l (suc v) s.import_index f rest (c_class l s) (d_class l s) b ≡ false → AddsWithin l s f rest v
fails_by l s f rest v (Section k) at base fits counts others e = section_fails l s f rest v s.import_index k at base (ltb-true k most_sections fits) counts others e
fails_by l s f rest v (Import k) at base fits counts others e = import_fails l s f rest v k at base (ltb-true k most_imports fits) e

pub failed-test : (l : Labels) (s : State) (f : Fixup) (rest : List Fixup) (v : ℕ) → s.position ≡ f.offset → base_fits f.base ≡ true → AllByRecursion (λ (g : Fixup). RegisteredBase l.registers g.base) (f ∷ rest) → base_test l (suc v) s.import_index f rest (c_class l s) (d_class l s) f.base ≡ false → AddsWithin l s f rest v
failed-test l s f rest v at fits counts e = fails_by l s f rest v f.base at refl fits counts.0 counts.1 e
