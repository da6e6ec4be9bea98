-- The tests of all states of a fixup, one kind of instruction after the other.
use Rattle.std.proofs.Common.{◌≡◌, ℕ, ◌+◌, ◌-◌, ◌*◌, ◌/◌, ◌%◌, ◌<◌, ◌≤◌, inl, inr, Bool, true, false, ◌||◌, ◌==◌, nat_le, List, [], ◌∷◌, length, drop, Some, refl, ap, sym, ◌∙◌, subst, arith, slice_get, slice_index, eq-eqb}
use Rattle.std.specs.Prelude.{slice_index_or}
use Rattle.std.proofs.Math.Nat.{div-add-mod, div-lt_iff_lt-mul, mod-lt}
use Rattle.std.proofs.lemmas.Bool.{and_from, and_parts, eqb-true, le-leb, leb-true, or_cases, or_left, or_right}
use Rattle.pef_reloc.specs.declared.fixup.Base.{Base}
use Rattle.pef_reloc.specs.declared.fixup.Base.TheVariants.{Section, Import}
use Rattle.pef_reloc.specs.declared.fixup.Fixup.{Fixup}
use Rattle.pef_words.proofs.Laws.Lists.{drop-here}
use Rattle.pef_cert.specs.Fixups.Answers.{Says}
use Rattle.pef_cert.specs.declared.claim.CheckedSuffix.{CheckedSuffix}
use Rattle.pef_cert.specs.declared.claim.Claim.{Claim}
use Rattle.pef_cert.specs.declared.feasible.TestedFixup.{TestedFixup}
use Rattle.pef_cert.specs.declared.runs.TestedState.{TestedState}
use Rattle.pef_cert.specs.Labels.{Labels, class_of, classes}
use Rattle.pef_cert.specs.Extension.{extension}
use Rattle.pef_cert.specs.Kept.Claims.{Sees, UnderTest, labels_claimed, row_at, state_of}
use Rattle.pef_cert.specs.Kept.Sets.{RowWithin}
use Rattle.pef_labels.specs.Rows.{rows_from}
use Rattle.pef_cert.specs.Kept.Tests.{AllSingles, AllTests, ImportRuns, SectionRuns, adds_first, label_of, single_test}
use Rattle.pef_cert.specs.LabelTests.{base_test, import_cost, numbered_test, row_test, second_test}
use Rattle.pef_cert.proofs.ClaimLemmas.{get_under, knows-sees, label_there, place_under, value-here}
use Rattle.pef_cert.proofs.ClassLemmas.{class_of-below}
use Rattle.pef_cert.proofs.StepLemmas.{row_alone}
use Rattle.pef_cert.proofs.TestLemmas.{ImportTests, SectionTests, import_tests, import_tests-met, section_tests, section_tests-met}

-- the values right after the fixup
pub under-sees : (b : CheckedSuffix) (u : TestedFixup) → UnderTest b u → Sees b (u.at + 1)
under-sees b u under =
    let low = get_under b.claim.fixups.now u.at u.fixup under.here in
    knows-sees b (u.at + 1) (u.at + 1) under.knows (omega arith) (omega arith) (omega (arith, low))

-- a section's fixup
all_of_section : (l : Labels) (index k : ℕ) (f : Fixup) (rest : List Fixup) (c d : ℕ) → f.base ≡ Section k → AllTests l index f rest → c < classes l → d < classes l → SectionTests l (label_of l f rest c d) k f rest c d
all_of_section l index k f rest c d base all under_c under_d =
    section_tests l (label_of l f rest c d) index k f rest c d (subst (λ (b : Base). base_test l (label_of l f rest c d) index f rest c d b ≡ true) base (all c d under_c under_d))

words_there : (l : Labels) (k : ℕ) (f : Fixup) (rest : List Fixup) (c d : ℕ) → SectionRuns l k f rest → c < classes l → d < classes l → (class_of l.registers k == c || class_of l.registers k == d) ≡ true → row_test l (label_of l f rest c d) 4 (Section k) c d 512 f.offset (f ∷ rest) ≡ true
words_there l k f rest c d runs under_c under_d either =
    let class : ℕ = class_of l.registers k in
    elim (or_cases (class == c) (class == d) either) [
      | inl is_c ↦ subst (λ (x : ℕ). row_test l (label_of l f rest x d) 4 (Section k) x d 512 f.offset (f ∷ rest) ≡ true) (eqb-true class c is_c)
          (and_parts (row_test l (label_of l f rest class d) 4 (Section k) class d 512 f.offset (f ∷ rest)) (second_test l (label_of l f rest class d) k class d f rest) (runs d under_d).0).0
      | inr is_d ↦ subst (λ (x : ℕ). row_test l (label_of l f rest c x) 4 (Section k) c x 512 f.offset (f ∷ rest) ≡ true) (eqb-true class d is_d)
          (and_parts (row_test l (label_of l f rest c class) 4 (Section k) c class 512 f.offset (f ∷ rest)) (row_test l (label_of l f rest c class) 8 (Section k) c class 512 f.offset (f ∷ rest)) (runs c under_c).1).0
    ]

spaced_there : (l : Labels) (k : ℕ) (f : Fixup) (rest : List Fixup) (c d : ℕ) → SectionRuns l k f rest → c < classes l → (class_of l.registers k == d) ≡ true → row_test l (label_of l f rest c d) 8 (Section k) c d 512 f.offset (f ∷ rest) ≡ true
spaced_there l k f rest c d runs under_c is =
    let class : ℕ = class_of l.registers k in
    subst (λ (x : ℕ). row_test l (label_of l f rest c x) 8 (Section k) c x 512 f.offset (f ∷ rest) ≡ true) (eqb-true class d is)
    (and_parts (row_test l (label_of l f rest c class) 4 (Section k) c class 512 f.offset (f ∷ rest)) (row_test l (label_of l f rest c class) 8 (Section k) c class 512 f.offset (f ∷ rest)) (runs c under_c).1).1

second_there : (l : Labels) (k : ℕ) (f : Fixup) (rest : List Fixup) (c d : ℕ) → SectionRuns l k f rest → d < classes l → (class_of l.registers k == c) ≡ true → second_test l (label_of l f rest c d) k c d f rest ≡ true
second_there l k f rest c d runs under_d is =
    let class : ℕ = class_of l.registers k in
    subst (λ (x : ℕ). second_test l (label_of l f rest x d) k x d f rest ≡ true) (eqb-true class c is)
    (and_parts (row_test l (label_of l f rest class d) 4 (Section k) class d 512 f.offset (f ∷ rest)) (second_test l (label_of l f rest class d) k class d f rest) (runs d under_d).0).1

pub section_all : (l : Labels) (index k : ℕ) (f : Fixup) (rest : List Fixup) → f.base ≡ Section k → AllSingles l 1 f rest → SectionRuns l k f rest → AllTests l index f rest
section_all l index k f rest base singles runs = λ c d under_c under_d.
    subst (λ (b : Base). base_test l (label_of l f rest c d) index f rest c d b ≡ true) (sym base)
    (section_tests-met l (label_of l f rest c d) index k f rest c d (record {
      single = singles c under_c d under_d;
      words = words_there l k f rest c d runs under_c under_d;
      spaced = spaced_there l k f rest c d runs under_c;
      second = second_there l k f rest c d runs under_d;
    }))

section_singles : (l : Labels) (index k : ℕ) (f : Fixup) (rest : List Fixup) → f.base ≡ Section k → AllTests l index f rest → AllSingles l 1 f rest
section_singles l index k f rest base all = λ c under_c d under_d. (all_of_section l index k f rest c d base all under_c under_d).single

pub section_runs : (l : Labels) (index k : ℕ) (f : Fixup) (rest : List Fixup) → f.base ≡ Section k → AllTests l index f rest → SectionRuns l k f rest
section_runs l index k f rest base all = λ x under.
    let class : ℕ = class_of l.registers k in
    let same = eq-eqb class class refl in
    let in_c = all_of_section l index k f rest class x base all (class_of-below l k) under in
    let in_d = all_of_section l index k f rest x class base all under (class_of-below l k) in (
      and_from (row_test l (label_of l f rest class x) 4 (Section k) class x 512 f.offset (f ∷ rest)) (second_test l (label_of l f rest class x) k class x f rest)
          (in_c.words (or_left (class == class) (class == x) same)) (in_c.second same),
      and_from (row_test l (label_of l f rest x class) 4 (Section k) x class 512 f.offset (f ∷ rest)) (row_test l (label_of l f rest x class) 8 (Section k) x class 512 f.offset (f ∷ rest))
          (in_d.words (or_right (class == x) (class == class) same)) (in_d.spaced same),
    )

pub section-fails : (l : Labels) (index k : ℕ) (f : Fixup) (rest : List Fixup) → f.base ≡ Section k → Says false (AllSingles l 1 f rest) → Says false (AllTests l index f rest)
section-fails l index k f rest base singles = (λ e. absurd (cc), λ all. singles.1 (section_singles l index k f rest base all))

pub section-says : (l : Labels) (index k : ℕ) (f : Fixup) (rest : List Fixup) (answer : Bool) → f.base ≡ Section k → Says true (AllSingles l 1 f rest) → Says answer (SectionRuns l k f rest) → Says answer (AllTests l index f rest)
section-says l index k f rest answer base singles runs = (
  λ e. section_all l index k f rest base (singles.0 refl) (runs.0 e),
  λ all. runs.1 (section_runs l index k f rest base all),
)

-- an import's fixup
all_of_import : (l : Labels) (index k : ℕ) (f : Fixup) (rest : List Fixup) (c d : ℕ) → f.base ≡ Import k → AllTests l index f rest → c < classes l → d < classes l → ImportTests l (label_of l f rest c d) index k f rest c d
all_of_import l index k f rest c d base all under_c under_d =
    import_tests l (label_of l f rest c d) index k f rest c d (subst (λ (b : Base). base_test l (label_of l f rest c d) index f rest c d b ≡ true) base (all c d under_c under_d))

pub import_all : (l : Labels) (index k : ℕ) (f : Fixup) (rest : List Fixup) → f.base ≡ Import k → AllSingles l (import_cost k) f rest → ((k == index) ≡ true → ImportRuns l k f rest) → AllTests l index f rest
import_all l index k f rest base singles runs = λ c d under_c under_d.
    subst (λ (b : Base). base_test l (label_of l f rest c d) index f rest c d b ≡ true) (sym base)
    (import_tests-met l (label_of l f rest c d) index k f rest c d (record {
      single = leb-true (label_of l f rest c d) (import_cost k + extension l rest (f.offset + 4) c d) (singles c under_c d under_d);
      imports = λ is. runs is c under_c d under_d;
    }))

import_singles : (l : Labels) (index k : ℕ) (f : Fixup) (rest : List Fixup) → f.base ≡ Import k → AllTests l index f rest → AllSingles l (import_cost k) f rest
import_singles l index k f rest base all = λ c under_c d under_d.
    le-leb (label_of l f rest c d) (import_cost k + extension l rest (f.offset + 4) c d) (all_of_import l index k f rest c d base all under_c under_d).single

import_runs : (l : Labels) (index k : ℕ) (f : Fixup) (rest : List Fixup) → f.base ≡ Import k → k ≡ index → AllTests l index f rest → ImportRuns l k f rest
import_runs l index k f rest base next all = λ c under_c d under_d.
    (all_of_import l index k f rest c d base all under_c under_d).imports (eq-eqb k index next)

pub import-fails : (l : Labels) (index k cost : ℕ) (f : Fixup) (rest : List Fixup) → f.base ≡ Import k → cost ≡ import_cost k → Says false (AllSingles l cost f rest) → Says false (AllTests l index f rest)
import-fails l index k cost f rest base is singles = (
  λ e. absurd (cc),
  λ all. singles.1 (subst (λ (n : ℕ). AllSingles l n f rest) (sym is) (import_singles l index k f rest base all)),
)

pub import-says : (l : Labels) (index k cost : ℕ) (f : Fixup) (rest : List Fixup) (answer : Bool) → f.base ≡ Import k → cost ≡ import_cost k → k ≡ index → Says true (AllSingles l cost f rest) → Says answer (ImportRuns l k f rest) → Says answer (AllTests l index f rest)
import-says l index k cost f rest answer base is next singles runs = (
  λ e. import_all l index k f rest base (subst (λ (n : ℕ). AllSingles l n f rest) is (singles.0 refl)) (λ same. runs.0 e),
  λ all. runs.1 (import_runs l index k f rest base next all),
)

-- the tests of a state, with the values that it has looked up
pub row-here : (claim : Claim) (u : TestedFixup) (c d w p : ℕ) (b : Base) (t : TestedState) (x : Bool) → slice_get claim.fixups.now u.at ≡ Some u.fixup → t ≡ state_of claim u c d → p ≡ u.fixup.offset → x ≡ row_test (labels_claimed claim) t.label w b t.c t.d 512 p (drop t.at claim.fixups.now) → x ≡ row_test (labels_claimed claim) (label_of (labels_claimed claim) u.fixup (drop (u.at + 1) claim.fixups.now) c d) w b c d 512 u.fixup.offset (u.fixup ∷ drop (u.at + 1) claim.fixups.now)
row-here claim u c d w p b t x here is at test =
    let l = labels_claimed claim in
    let fixups = claim.fixups.now in
    test
    ∙ (ap (λ (s : TestedState). row_test l s.label w b s.c s.d 512 p (drop s.at fixups)) is
    ∙ (ap (λ n. row_test l n w b c d 512 p (drop u.at fixups)) (label_there l fixups u.at u.fixup c d here)
    ∙ (ap (λ q. row_test l (label_of l u.fixup (drop (u.at + 1) fixups) c d) w b c d 512 q (drop u.at fixups)) at
    ∙ ap (λ fs. row_test l (label_of l u.fixup (drop (u.at + 1) fixups) c d) w b c d 512 u.fixup.offset fs) (drop-here fixups u.at u.fixup here))))

-- a run that doesn't go on after the fixup, whose addition alone was tested
pub row-lone : (l : Labels) (f : Fixup) (rest : List Fixup) (k c d : ℕ) → single_test l 1 f rest c d ≡ true → adds_first (f.offset + 4) (Section k) rest ≡ false → true ≡ row_test l (label_of l f rest c d) 4 (Section k) c d 512 f.offset (f ∷ rest)
row-lone l f rest k c d single stops = sym (row_alone l (label_of l f rest c d) 4 (Section k) c d 512 f.offset (f ∷ rest) single stops)

pub second-here : (claim : Claim) (u : TestedFixup) (c d k : ℕ) (t : TestedState) (x : Bool) → slice_get claim.fixups.now u.at ≡ Some u.fixup → t ≡ state_of claim u c d → x ≡ second_test (labels_claimed claim) t.label k t.c t.d t.fixup (drop (t.at + 1) claim.fixups.now) → x ≡ second_test (labels_claimed claim) (label_of (labels_claimed claim) u.fixup (drop (u.at + 1) claim.fixups.now) c d) k c d u.fixup (drop (u.at + 1) claim.fixups.now)
second-here claim u c d k t x here is test =
    let l = labels_claimed claim in
    let fixups = claim.fixups.now in
    test
    ∙ (ap (λ (s : TestedState). second_test l s.label k s.c s.d s.fixup (drop (s.at + 1) fixups)) is
    ∙ ap (λ n. second_test l n k c d u.fixup (drop (u.at + 1) fixups)) (label_there l fixups u.at u.fixup c d here))

pub numbered-here : (claim : Claim) (u : TestedFixup) (c d k p : ℕ) (t : TestedState) (x : Bool) → slice_get claim.fixups.now u.at ≡ Some u.fixup → t ≡ state_of claim u c d → p ≡ u.fixup.offset → x ≡ numbered_test (labels_claimed claim) t.label t.c t.d 512 p k (drop t.at claim.fixups.now) → numbered_test (labels_claimed claim) (label_of (labels_claimed claim) u.fixup (drop (u.at + 1) claim.fixups.now) c d) c d 512 u.fixup.offset k (u.fixup ∷ drop (u.at + 1) claim.fixups.now) ≡ x
numbered-here claim u c d k p t x here is at test =
    let l = labels_claimed claim in
    let fixups = claim.fixups.now in
    sym (test
    ∙ (ap (λ (s : TestedState). numbered_test l s.label s.c s.d 512 p k (drop s.at fixups)) is
    ∙ (ap (λ n. numbered_test l n c d 512 p k (drop u.at fixups)) (label_there l fixups u.at u.fixup c d here)
    ∙ (ap (λ q. numbered_test l (label_of l u.fixup (drop (u.at + 1) fixups) c d) c d 512 q k (drop u.at fixups)) at
    ∙ ap (λ fs. numbered_test l (label_of l u.fixup (drop (u.at + 1) fixups) c d) c d 512 u.fixup.offset k fs) (drop-here fixups u.at u.fixup here)))))

pub single-here : (claim : Claim) (u : TestedFixup) (c d cost label n p value : ℕ) (x : Bool) → slice_get claim.fixups.now u.at ≡ Some u.fixup → label ≡ (labels_claimed claim).label (length claim.fixups.now - u.at) c d → n ≡ cost → p ≡ u.fixup.offset → value ≡ extension (labels_claimed claim) (drop (u.at + 1) claim.fixups.now) (p + 4) c d → x ≡ nat_le label (n + value) → x ≡ single_test (labels_claimed claim) cost u.fixup (drop (u.at + 1) claim.fixups.now) c d
single-here claim u c d cost label n p value x here is cost_is at value_is test =
    let l = labels_claimed claim in
    let rest = drop (u.at + 1) claim.fixups.now in
    test
    ∙ (ap (λ y. nat_le y (n + value)) (is ∙ label_there l claim.fixups.now u.at u.fixup c d here)
    ∙ (ap (λ y. nat_le (label_of l u.fixup rest c d) (y + value)) cost_is
    ∙ ap (λ y. nat_le (label_of l u.fixup rest c d) (cost + y)) (value_is ∙ ap (λ q. extension l rest (q + 4) c d) at)))

-- what holds at the place of each two classes holds at all places
at_places : (r : ℕ) (P : ℕ → Type 0) → 0 < r → ((c d : ℕ) → c < r → d < r → P (c * r + d)) → (k : ℕ) → k < r * r → P k
at_places r P some each k under =
    let line : k / r < r = (div-lt_iff_lt-mul {k = r} {x = k} {y = r} some).1 under in
    let place : r * (k / r) + k % r ≡ k = div-add-mod k r in
    let turned : k / r * r + k % r ≡ k = omega (arith, place) in
    subst P turned (each (k / r) (k % r) line (mod-lt k some))

-- if the next word has a fixup, the addition alone leads to its row of labels
pub singles-near : (b : CheckedSuffix) (u : TestedFixup) (g : Fixup) (cost : ℕ) (row later : List ℕ) (answer : Bool) → UnderTest b u
    → slice_get b.claim.fixups.now (u.at + 1) ≡ Some g → g.offset ≡ u.fixup.offset + 4
    → row ≡ row_at b.claim u.at → later ≡ row_at b.claim (u.at + 1)
    → length row ≡ (length b.claim.registers.now + 1) * (length b.claim.registers.now + 1)
    → Says answer (RowWithin cost row later)
    → Says answer (AllSingles (labels_claimed b.claim) cost u.fixup (drop (u.at + 1) b.claim.fixups.now))
singles-near b u g cost row later answer under next near row_is later_is wide says =
    let l = labels_claimed b.claim in
    let fixups = b.claim.fixups.now in
    let n = length fixups in
    let r = length b.claim.registers.now + 1 in
    let rest = drop (u.at + 1) fixups in
    let p = u.fixup.offset + 4 in
    let rows = rows_from b.claim.kept.width 0 b.claim.kept.ends.now b.claim.kept.values.now in
    let inside : u.at + 1 < n = get_under fixups (u.at + 1) g next in
    let here : n - (n - u.at) ≡ u.at = omega arith in
    let there : n - (n - (u.at + 1)) ≡ u.at + 1 = omega arith in
    let label : (c d : ℕ) → label_of l u.fixup rest c d ≡ slice_index row (c * r + d) = λ c d.
    sym (label_there l fixups u.at u.fixup c d under.here)
    ∙ ap (λ i. slice_index (slice_index_or rows i []) (c * r + d)) here
    ∙ ap (λ line. slice_index line (c * r + d)) (sym row_is) in
    let value : (c d : ℕ) → slice_index later (c * r + d) ≡ extension l rest p c d = λ c d.
    ap (λ line. slice_index line (c * r + d)) later_is
    ∙ sym (ap (λ i. slice_index (slice_index_or rows i []) (c * r + d)) there)
    ∙ value-here l fixups (u.at + 1) g p c d (l.label (n - (u.at + 1)) c d) next (sym near) refl in (
      (λ yes c under_c d under_d.
          let low = says.0 yes (c * r + d) (subst (λ w. c * r + d < w) (sym wide) (place_under r c d under_c under_d)) in
          let first = label c d in
          let second = value c d in
          le-leb (label_of l u.fixup rest c d) (cost + extension l rest p c d) (omega (arith, low, first, second))),
      (λ all. says.1 (λ k below.
          at_places r (λ k. slice_index row k ≤ cost + slice_index later k) (omega arith)
          (λ c d under_c under_d.
          let low = leb-true (label_of l u.fixup rest c d) (cost + extension l rest p c d) (all c under_c d under_d) in
          let first = label c d in
          let second = value c d in
          omega (arith, low, first, second))
          k (subst (λ w. k < w) wide below))),
    )
