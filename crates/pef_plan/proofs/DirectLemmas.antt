-- The direct values at each pair of classes: those of one addition, lowered in a line, in a column or
-- everywhere.
use Rattle.std.proofs.Common.{◌≡◌, ℕ, zero, suc, ◌+◌, ◌-◌, ◌*◌, ◌<◌, ◌≤◌, ◌⊎◌, inl, inr, Bool, true, false, ◌==◌, cond, nat_lt, List, ◌∷◌, length, slice_index, refl, ap, sym, ◌∙◌, subst, arith}
use Rattle.std.specs.Prelude.{slice_set}
use Rattle.std.proofs.lemmas.Bool.{eqb-true}
use Rattle.std.proofs.lemmas.Bool.Decides.{eqb_tells}
use Rattle.std.proofs.lemmas.List.{get_or-set_other, get_or-set_same}
use Rattle.pef_reloc.specs.declared.fixup.Base.{Base}
use Rattle.pef_reloc.specs.declared.fixup.Base.TheVariants.{Import, Section}
use Rattle.pef_cert.specs.Labels.{Labels, class_of}
use Rattle.pef_cert.specs.LabelTests.{base_test, import_cost, numbered_test}
use Rattle.pef_cert.specs.Extension.{extension}
use Rattle.pef_plan.specs.declared.runs.suffix.SolvedSuffix.{SolvedSuffix}
use Rattle.pef_plan.specs.declared.runs.state.FixupState.{FixupState}
use Rattle.pef_plan.specs.declared.runs.state.OpenState.{OpenState}
use Rattle.pef_plan.specs.declared.runs.ends.RunEnds.{RunEnds}
use Rattle.pef_plan.specs.Kept.Rows.{Adds, AddsInBoth, AddsInC, DirectIs, DirectRow, EachState, state_of}
use Rattle.pef_plan.specs.Runs.Ends.{EndsAt}
use Rattle.pef_plan.specs.Runs.Places.{AtOf, Counts, HereOf, Led}
use Rattle.pef_plan.specs.Runs.Tables.{Agrees, number_in, place_of}
use Rattle.pef_plan.specs.Windows.Windows.{BestOf, WindowOf}
use Rattle.pef_plan.proofs.LowFacts.{import_by, low-is, section_led, skip_is}
use Rattle.pef_plan.proofs.RowLemmas.{SkipIs, With}
use Rattle.pef_plan.proofs.RunsProofs.EndBest.{skips_best}
use Rattle.pef_plan.proofs.RunTests.{import_met, section_met}
use Rattle.pef_plan.proofs.RunsProofs.PlaceLemmas.{place_under, same_place}

-- the state at two classes
pub here-of : (k : SolvedSuffix) (a : FixupState) (c d : ℕ) → AtOf k a → c < length k.registers.now + 1 → d < length k.registers.now + 1 → HereOf k (state_of a c d)
here-of k a c d at under_c under_d = record {
  parts = at.parts;
  shaped = at.shaped;
  c = under_c;
  d = under_d;
  fit = at.fit;
  counts = at.counts;
  import_small = at.import_small;
}

pub with-of : (a : FixupState) (c d : ℕ) → With a c d (state_of a c d)
with-of a c d = record { first = refl; others = refl; left = refl; position = refl; import_index = refl; c_is = refl; d_is = refl }

-- each place is that of a pair
pub pair_at : (r n i : ℕ) → i < n * r → (c : ℕ) × (d : ℕ) × (c < n) × (d < r) × (i ≡ place_of r c d)
pair_at r zero i under = absurd (omega (arith, under))
pair_at r (suc n) i under = by (eqb_below i (n * r)) (pair_at r n i)
  where
    eqb_below : (x y : ℕ) → (x < y) ⊎ (y ≤ x)
    eqb_below x zero = inr (omega arith)
    eqb_below zero (suc y) = inl (omega arith)
    eqb_below (suc x) (suc y) = elim (eqb_below x y) [ inl low ↦ inl (omega (arith, low)) | inr high ↦ inr (omega (arith, high)) ]

    by : (i < n * r) ⊎ (n * r ≤ i) → (i < n * r → (c : ℕ) × (d : ℕ) × (c < n) × (d < r) × (i ≡ place_of r c d)) → (c : ℕ) × (d : ℕ) × (c < suc n) × (d < r) × (i ≡ place_of r c d)
    by (inl low) before = let p = before low in let u = p.2 in (p.0, p.1, omega (arith, u), p.3, p.4)
    by (inr high) before = (n, i - n * r, omega arith, omega (arith, under, high), omega (arith, high))

-- a property of the number of each pair is one of each number
pub each_place : (P : ℕ → Type 0) (r : ℕ) (row : List ℕ) → ((c d : ℕ) → c < r → d < r → P (number_in r row c d)) → (i : ℕ) → i < r * r → P (slice_index row i)
each_place P r row each i under =
    let p = pair_at r r i under in
    subst (λ (n : ℕ). P (slice_index row n)) (sym p.4) (each p.0 p.1 p.2 p.3)

-- the extension right after the fixup
pub near-is : (k : SolvedSuffix) (a : FixupState) (e : RunEnds) (c d : ℕ) (l : Labels) → EndsAt k a.others.now (a.first ∷ a.others.now) e → c < length k.registers.now + 1 → d < length k.registers.now + 1 → Agrees l k a.others.now → number_in (length k.registers.now + 1) e.near.items c d ≡ extension l a.others.now (a.first.offset + 4) c d
near-is k a e c d l ends under_c under_d agrees =
    let same = agrees.same.registers_are in
    let count = ap length same in
    ap (λ rs. number_in (length rs + 1) e.near.items c d) (sym same)
    ∙ ends.near l agrees c d (omega (arith, count, under_c)) (omega (arith, count, under_d))

-- the value of one addition, of a section and of an import
pub adds-section : (k : SolvedSuffix) (a : FixupState) (e : RunEnds) (section c d value : ℕ) → AtOf k a → EndsAt k a.others.now (a.first ∷ a.others.now) e → a.first.base ≡ Section section → c < length k.registers.now + 1 → d < length k.registers.now + 1 → value ≡ 1 + number_in (length k.registers.now + 1) e.near.items c d → Adds k (state_of a c d) 1 value
adds-section k a e section c d value at ends base under_c under_d is =
    let low = ends.near_small c d under_c under_d in
    let worth : (l : Labels) → Agrees l k a.others.now → value ≡ 1 + extension l a.others.now (a.first.offset + 4) c d = λ l agrees. is ∙ ap (λ n. 1 + n) (near-is k a e c d l ends under_c under_d agrees) in
    record {
      led = section_led k (state_of a c d) section value (here-of k a c d at under_c under_d) refl base worth;
      low = λ l agrees. let same = worth l agrees in omega (arith, same);
      small = omega (arith, low, is);
    }

pub adds-import : (k : SolvedSuffix) (a : FixupState) (e : RunEnds) (import c d value : ℕ) (small : Bool) → AtOf k a → EndsAt k a.others.now (a.first ∷ a.others.now) e → a.first.base ≡ Import import → nat_lt import 512 ≡ small → c < length k.registers.now + 1 → d < length k.registers.now + 1 → value ≡ cond small 1 2 + number_in (length k.registers.now + 1) e.near.items c d → Adds k (state_of a c d) (cond small 1 2) value
adds-import k a e import c d value small at ends base few under_c under_d is =
    let low = ends.near_small c d under_c under_d in
    let worth : (l : Labels) → Agrees l k a.others.now → value ≡ cond small 1 2 + extension l a.others.now (a.first.offset + 4) c d = λ l agrees. is ∙ ap (λ n. cond small 1 2 + n) (near-is k a e c d l ends under_c under_d agrees) in
    record {
      led = import_by k (state_of a c d) import value small (here-of k a c d at under_c under_d) refl base few worth;
      low = λ l agrees. let same = worth l agrees in omega (arith, same);
      small = (let cheap = two_most small in omega (arith, low, is, cheap));
    }
  where
    two_most : (b : Bool) → cond b 1 2 ≤ 2
    two_most true = omega arith
    two_most false = omega arith

pub each-import : (k : SolvedSuffix) (a : FixupState) (e : RunEnds) (import cost : ℕ) (row : List ℕ) → AtOf k a → EndsAt k a.others.now (a.first ∷ a.others.now) e → a.first.base ≡ Import import → cost ≡ import_cost import
    → ((i : ℕ) → i < (length k.registers.now + 1) * (length k.registers.now + 1) → slice_index row i ≡ cost + slice_index e.near.items i) → EachState k a (λ h v. Adds k h (import_cost import) v) row
each-import k a e import cost row at ends base cost_is are = λ x y under_x under_y.
    let r : ℕ = length k.registers.now + 1 in
    adds-import k a e import x y (number_in r row x y) (nat_lt import 512) at ends base refl under_x under_y
    (are (place_of r x y) (place_under r x y under_x under_y) ∙ ap (λ n. n + number_in r e.near.items x y) cost_is)

-- with the register in another class, no run begins
pub in_c-away : (k : SolvedSuffix) (h : OpenState) (section class value : ℕ) → class_of k.registers.now section ≡ class → (h.place.c ≡ class → ⊥) → Adds k h 1 value → AddsInC k h section value
in_c-away k h section class value is away adds = record {
  adds = adds;
  in_c = λ l n agrees low same. absurd (away (sym (eqb-true (class_of l.registers section) h.place.c same) ∙ (ap (λ rs. class_of rs section) agrees.same.registers_are ∙ is)));
}

pub in_d-away : (k : SolvedSuffix) (h : OpenState) (section class value : ℕ) → class_of k.registers.now section ≡ class → (h.place.d ≡ class → ⊥) → AddsInC k h section value → AddsInBoth k h section value
in_d-away k h section class value is away first = record {
  first = first;
  in_d = λ l n agrees low same. absurd (away (sym (eqb-true (class_of l.registers section) h.place.d same) ∙ (ap (λ rs. class_of rs section) agrees.same.registers_are ∙ is)));
}

-- a lowered value keeps its properties
pub adds-lower : (k : SolvedSuffix) (h : OpenState) (cost value lower : ℕ) → Adds k h cost value → Led k h lower → lower ≤ value → Adds k h cost lower
adds-lower k h cost value lower adds led better = record {
  led = led;
  low = λ l agrees. let most = adds.low l agrees in omega (arith, most, better);
  small = (let most = adds.small in omega (arith, most, better));
}

pub in_c-lower : (k : SolvedSuffix) (h : OpenState) (section value lower : ℕ) → AddsInC k h section value → Led k h lower → lower ≤ value → AddsInC k h section lower
in_c-lower k h section value lower first led better = record {
  adds = adds-lower k h 1 value lower first.adds led better;
  in_c = λ l n agrees low. first.in_c l n agrees (omega (arith, low, better));
}

-- the value with the registers in two classes, by runs of both registers
direct-section : (k : SolvedSuffix) (a : FixupState) (section c d value : ℕ) → AtOf k a → a.first.base ≡ Section section → AddsInBoth k (state_of a c d) section value → DirectIs k a c d value
direct-section k a section c d value at base both =
    let h : OpenState = state_of a c d in
    low-is k a c d h value at (with-of a c d) both.first.adds.led
    (λ l n agrees low.
    let most = both.first.adds.low l agrees in
    subst (λ (b : Base). base_test l n a.import_index a.first a.others.now c d b ≡ true) (sym base)
    (section_met l h a.import_index section n (omega (arith, low, most)) (both.first.in_c l n agrees low) (both.in_d l n agrees low)))
    both.first.adds.small

pub direct-row : (k : SolvedSuffix) (a : FixupState) (section : ℕ) (row : List ℕ) → AtOf k a → a.first.base ≡ Section section → EachState k a (λ h value. AddsInBoth k h section value) row → DirectRow k a row
direct-row k a section row at base each = λ c d under_c under_d. direct-section k a section c d (number_in (length k.registers.now + 1) row c d) at base (each c d under_c under_d)

-- the same for an import that isn't the next one
pub direct-import : (k : SolvedSuffix) (a : FixupState) (import c d value : ℕ) → AtOf k a → a.first.base ≡ Import import → Adds k (state_of a c d) (import_cost import) value
    → ((l : Labels) (n : ℕ) → Agrees l k a.others.now → n ≤ value → (import == a.import_index) ≡ true → numbered_test l n c d 512 a.first.offset import (a.first ∷ a.others.now) ≡ true) → DirectIs k a c d value
direct-import k a import c d value at base adds run =
    let h : OpenState = state_of a c d in
    low-is k a c d h value at (with-of a c d) adds.led
    (λ l n agrees low.
    let most = adds.low l agrees in
    subst (λ (b : Base). base_test l n a.import_index a.first a.others.now c d b ≡ true) (sym base)
    (import_met l h import n (omega (arith, low, most)) (run l n agrees low)))
    adds.small

-- the numbers of a row after some are lowered
abbrev pub Lowered : ℕ → (ℕ → ℕ → ℕ → Type 0) → (ℕ → ℕ → ℕ → Type 0) → (ℕ → ℕ → Type 0) → List ℕ → Type 0
Lowered r A B D row = (c d : ℕ) → c < r → d < r → (D c d × B c d (number_in r row c d)) ⊎ ((D c d → ⊥) × A c d (number_in r row c d))

pub lowered-set : (r : ℕ) (A B : ℕ → ℕ → ℕ → Type 0) (D D' : ℕ → ℕ → Type 0) (row : List ℕ) (place c d x : ℕ) → place ≡ place_of r c d → place < length row → d < r
    → ((x y : ℕ) → D x y → D' x y) → ((x y : ℕ) → y < r → D' x y → ((x ≡ c) × (y ≡ d) → ⊥) → D x y) → D' c d → B c d x → Lowered r A B D row → Lowered r A B D' (slice_set row place x)
lowered-set r A B D D' row place c d x is inside under more only done new lowered = λ c' d' under_c under_d.
    elim (eqb_tells (place_of r c' d') place) [
      | inl same ↦
          (let pair = same_place r c' d' c d under_d under (same.1 ∙ is) in
          let there : number_in r (slice_set row place x) c' d' ≡ x = ap (slice_index (slice_set row place x)) same.1 ∙ get_or-set_same row place x 0 inside in
          let b : B c' d' x = subst (λ (y : ℕ). B c' y x) (sym pair.1) (subst (λ (y : ℕ). B y d x) (sym pair.0) new) in
          let t : D' c' d' = subst (λ (y : ℕ). D' c' y) (sym pair.1) (subst (λ (y : ℕ). D' y d) (sym pair.0) done) in
          inl (t, subst (λ (v : ℕ). B c' d' v) (sym there) b))
      | inr other ↦
          (let there : number_in r (slice_set row place x) c' d' ≡ number_in r row c' d' = get_or-set_other row place (place_of r c' d') x 0 other.1 in
          let apart : ((c' ≡ c) × (d' ≡ d) → ⊥) = λ same. other.1 (rw (same.0, same.1) (sym is)) in
          elim (lowered c' d' under_c under_d) [
            | inl old ↦ inl (more c' d' old.0, subst (λ (v : ℕ). B c' d' v) (sym there) old.1)
            | inr old ↦ inr (λ t. old.0 (only c' d' under_d t apart), subst (λ (v : ℕ). A c' d' v) (sym there) old.1)
          ])
    ]

-- the least skip with register C in a class, from the best number of the window of skips
pub skip-best : (k : SolvedSuffix) (a : FixupState) (section c value : ℕ) (e : RunEnds) → AtOf k a → a.first.base ≡ Section section → c < length k.registers.now + 1 → EndsAt k a.others.now (a.first ∷ a.others.now) e
    → ((width limit : ℕ) (rows : List (List ℕ)) → WindowOf width limit rows e.words.skips → BestOf (1 + number_in (length k.registers.now + 1) e.near.items c (class_of k.registers.now section)) rows c value)
    → SkipIs k a section c value
skip-best k a section c value e at base under ends bests =
    let r = length k.registers.now + 1 in
    let class = class_of k.registers.now section in
    let counts = subst (λ b. Counts k.registers.now b) base at.counts.0 in
    let inside : class < r = omega (arith, counts) in
    let h : OpenState = state_of a c class in
    let here = here-of k a c class at under inside in
    let first = 1 + number_in r e.near.items c class in
    let after : (l : Labels) → Agrees l k a.others.now → first ≡ 1 + extension l a.others.now (a.first.offset + 4) c class = λ l agrees. (
    let regs = agrees.same.registers_are in
    let count = ap length regs in
    ap (λ n. 1 + n) (ap (λ rs. number_in (length rs + 1) e.near.items c class) (sym regs) ∙ ends.near l agrees c class (omega (arith, count, under)) (omega (arith, count, inside)))) in
    let best = skips_best k h 0 section first value e.words.skips here refl (((refl, counts), omega arith), omega arith) base (refl, counts) ends.words.skips bests in
    let low = ends.near_small c class under inside in
    let better = best.better in
    record {
      is = λ l agrees. skip_is k h section first value l here base (refl, counts) refl after best.one best.ends agrees;
      small = omega (arith, low, better);
    }
