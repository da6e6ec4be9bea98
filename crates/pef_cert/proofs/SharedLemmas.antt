-- The tests that hold at a fixup because the next fixup has the same row of labels, which are feasible
-- there.
use Rattle.std.proofs.Common.{◌≡◌, ◌≢◌, ℕ, ◌+◌, ◌-◌, ◌*◌, ◌<◌, ◌≤◌, inl, inr, Bool, true, false, cond, ◌||◌, ◌==◌, nat_lt, List, [], ◌∷◌, length, take, drop, Some, refl, ap, sym, ◌∙◌, subst, arith, slice_get, slice_index, eq-eqb}
use Rattle.std.specs.Prelude.{slice_index_or}
use Rattle.std.proofs.lemmas.Bool.{and_from, and_parts, le-leb, ne_eqb, or_left, or_right}
use Rattle.std.proofs.lemmas.Bool.Decides.{eqb_tells}
use Rattle.std.proofs.lemmas.Option.{slice_get-get_or}
use Rattle.pef_reloc.specs.Deliveries.{index_after, index_past}
use Rattle.pef_reloc.specs.Steps.{added}
use Rattle.pef_reloc.specs.declared.fixup.Base.{Base}
use Rattle.pef_reloc.specs.declared.fixup.Base.TheVariants.{Section, Import}
use Rattle.pef_reloc.specs.declared.fixup.Fixup.{Fixup}
use Rattle.pef_cert.specs.Fixups.Answers.{Says}
use Rattle.pef_labels.specs.Rows.{rows_from}
use Rattle.pef_words.proofs.Laws.Lists.{drop-here}
use Rattle.pef_cert.specs.declared.claim.CheckedSuffix.{CheckedSuffix}
use Rattle.pef_cert.specs.declared.feasible.TestedFixup.{TestedFixup}
use Rattle.pef_cert.specs.declared.runs.TestedState.{TestedState}
use Rattle.pef_cert.specs.Extension.{extension}
use Rattle.pef_cert.specs.Labels.{Labels, class_of}
use Rattle.pef_cert.specs.Kept.Claims.{GoesOn, SharesRow, Tests, UnderTest, label_after, labels_claimed, row_at, state_of}
use Rattle.pef_cert.specs.Kept.Sets.{RowHolds}
use Rattle.pef_cert.specs.Kept.Tests.{AllSingles, AllTests, adds_first, label_of}
use Rattle.pef_cert.specs.LabelTests.{SetsHold, import_cost, numbered_test, pair_test, row_test, second_test}
use Rattle.pef_cert.proofs.ClaimLemmas.{label_there, row-kept, value-here, value-past}
use Rattle.pef_cert.proofs.ClassLemmas.{class_of-below}
use Rattle.pef_cert.proofs.CoverLemmas.{feasible-later, imports-met, words-met}
use Rattle.pef_cert.proofs.FeasibleLemmas.{left_count, needed_of}
use Rattle.pef_cert.proofs.KindLemmas.{import_all, second-here, section_all, section_runs}
use Rattle.pef_cert.proofs.RunLemmas.{numbered_test-first, numbered_test-weaker, row_test-first, row_test-weaker}
use Rattle.pef_cert.proofs.SetLemmas.{row-sets}
use Rattle.pef_cert.proofs.StepLemmas.{added_there, row_stops}
use Rattle.pef_cert.proofs.SweepLemmas.{index_next}

-- both rows are the kept one
shared_row : (b : CheckedSuffix) (u : TestedFixup) → UnderTest b u → SharesRow b u → row_at b.claim u.at ≡ row_at b.claim (u.at + 1)
shared_row b u under shares =
    let kept = b.claim.kept in
    let full = under.knows.shaped.full in
    sym (row-kept kept.width u.row u.at kept.ends.now kept.values.now full under.row)
    ∙ row-kept kept.width u.row (u.at + 1) kept.ends.now kept.values.now full shares.row

-- the next fixup
next_there : (fixups : List Fixup) (at : ℕ) (f : Fixup) → at + 1 < length fixups → slice_get fixups (at + 1) ≡ Some (slice_index_or fixups (at + 1) f)
next_there fixups at f under = slice_get-get_or fixups (at + 1) f under

pub sets-shared : (b : CheckedSuffix) (u : TestedFixup) → UnderTest b u → SharesRow b u → RowHolds (row_at b.claim u.at) (length b.claim.registers.now + 1)
sets-shared b u under shares =
    let fixups = b.claim.fixups.now in
    let l = labels_claimed b.claim in
    let g = slice_index_or fixups (u.at + 1) u.fixup in
    let next = next_there fixups u.at u.fixup shares.inside in
    let feasible = feasible-later l 0 fixups (u.at + 1) (u.at + 1) g under.beyond (omega arith) next in
    let needed = needed_of b.claim (u.at + 1) (index_after (take (u.at + 1) fixups) 0) g under.knows.shaped next feasible in
    let inside : u.at + 1 ≤ length fixups = omega (arith, shares.inside) in
    row-sets b.claim.registers.now (row_at b.claim u.at) (rows_from b.claim.kept.width 0 b.claim.kept.ends.now b.claim.kept.values.now) (length fixups) (u.at + 1) inside (shared_row b u under shares)
    (subst (SetsHold l) (sym (left_count fixups (u.at + 1) g next)) needed.sets)

-- both labels are equal
shared_label : (b : CheckedSuffix) (u : TestedFixup) (c d : ℕ) → UnderTest b u → SharesRow b u → label_of (labels_claimed b.claim) u.fixup (drop (u.at + 1) b.claim.fixups.now) c d ≡ (labels_claimed b.claim).label (length b.claim.fixups.now - (u.at + 1)) c d
shared_label b u c d under shares =
    let fixups = b.claim.fixups.now in
    let n = length fixups in
    let rows = rows_from b.claim.kept.width 0 b.claim.kept.ends.now b.claim.kept.values.now in
    let place = c * (length b.claim.registers.now + 1) + d in
    let here : n - (n - u.at) ≡ u.at = omega (arith, shares.inside) in
    let there : n - (n - (u.at + 1)) ≡ u.at + 1 = omega (arith, shares.inside) in
    sym (label_there (labels_claimed b.claim) fixups u.at u.fixup c d under.here)
    ∙ (ap (λ i. slice_index (slice_index_or rows i []) place) here
    ∙ (ap (λ r. slice_index r place) (shared_row b u under shares)
    ∙ sym (ap (λ i. slice_index (slice_index_or rows i []) place) there)))

-- the state at the fixup
state_tests : (b : CheckedSuffix) (u : TestedFixup) (c d : ℕ) → UnderTest b u → c < length b.claim.registers.now + 1 → d < length b.claim.registers.now + 1 → Tests b (state_of b.claim u c d)
state_tests b u c d under under_c under_d = record {
  knows = under.knows;
  beyond = under.beyond;
  here = under.here;
  c_class = under_c;
  d_class = under_d;
}

-- the addition alone
near_low : (b : CheckedSuffix) (u : TestedFixup) (base : Base) (c d : ℕ) → UnderTest b u → GoesOn b u base → label_of (labels_claimed b.claim) u.fixup (drop (u.at + 1) b.claim.fixups.now) c d ≡ extension (labels_claimed b.claim) (drop (u.at + 1) b.claim.fixups.now) (u.fixup.offset + 4) c d
near_low b u base c d under on =
    let l = labels_claimed b.claim in
    let fixups = b.claim.fixups.now in
    let next = added_there fixups (u.at + 1) (u.fixup.offset + 4) base on.adds in
    shared_label b u c d under on.shares
    ∙ value-here l fixups (u.at + 1) (added (u.fixup.offset + 4) base) (u.fixup.offset + 4) c d (l.label (length fixups - (u.at + 1)) c d) next refl refl

singles_shared : (b : CheckedSuffix) (u : TestedFixup) (base : Base) (cost : ℕ) → UnderTest b u → GoesOn b u base → 1 ≤ cost → AllSingles (labels_claimed b.claim) cost u.fixup (drop (u.at + 1) b.claim.fixups.now)
singles_shared b u base cost under on some = λ c under_c d under_d.
    let l = labels_claimed b.claim in
    let rest = drop (u.at + 1) b.claim.fixups.now in
    let same = near_low b u base c d under on in
    le-leb (label_of l u.fixup rest c d) (cost + extension l rest (u.fixup.offset + 4) c d) (omega (arith, same))

-- runs of a section, side by side and a word apart
words_shared : (b : CheckedSuffix) (u : TestedFixup) (k c d : ℕ) → UnderTest b u → GoesOn b u (Section k) → c < length b.claim.registers.now + 1 → d < length b.claim.registers.now + 1 → (class_of b.claim.registers.now k == c || class_of b.claim.registers.now k == d) ≡ true → row_test (labels_claimed b.claim) (label_of (labels_claimed b.claim) u.fixup (drop (u.at + 1) b.claim.fixups.now) c d) 4 (Section k) c d 512 u.fixup.offset (u.fixup ∷ drop (u.at + 1) b.claim.fixups.now) ≡ true
words_shared b u k c d under on under_c under_d either =
    let l = labels_claimed b.claim in
    let rest = drop (u.at + 1) b.claim.fixups.now in
    let label = label_of l u.fixup rest c d in
    let t = state_of b.claim u c d in
    let met = words-met b t k (class_of b.claim.registers.now k) (state_tests b u c d under under_c under_d) refl either (u.at + 1) (u.fixup.offset + 4) (omega arith) on.adds in
    let same = shared_label b u c d under on.shares in
    let low = near_low b u (Section k) c d under on in
    row_test-first l label 4 (Section k) c d 511 u.fixup.offset u.fixup rest (omega (arith, low))
    (row_test-weaker l label (label_after b t (u.at + 1)) 4 (Section k) c d 511 512 (u.fixup.offset + 4) rest (omega (arith, same)) (omega arith) met)

not_added : (p q : ℕ) (b b' : Base) (more : List Fixup) → q ≢ p → adds_first p b (added q b' ∷ more) ≡ false
not_added p q b b' more apart = rw (ne_eqb q p apart) refl

spaced_shared : (b : CheckedSuffix) (u : TestedFixup) (k c d : ℕ) → UnderTest b u → GoesOn b u (Section k) → row_test (labels_claimed b.claim) (label_of (labels_claimed b.claim) u.fixup (drop (u.at + 1) b.claim.fixups.now) c d) 8 (Section k) c d 512 u.fixup.offset (u.fixup ∷ drop (u.at + 1) b.claim.fixups.now) ≡ true
spaced_shared b u k c d under on =
    let l = labels_claimed b.claim in
    let fixups = b.claim.fixups.now in
    let rest = drop (u.at + 1) fixups in
    let p = u.fixup.offset in
    let label = label_of l u.fixup rest c d in
    let g = added (p + 4) (Section k) in
    let next = added_there fixups (u.at + 1) (p + 4) (Section k) on.adds in
    let there = l.label (length fixups - (u.at + 1)) c d in
    let past = value-past l fixups (u.at + 1) g (p + 8) c d there (2 + there) next (omega arith) refl refl in
    let same = shared_label b u c d under on.shares in
    let stops : adds_first (p + 8) (Section k) rest ≡ false = ap (adds_first (p + 8) (Section k)) (drop-here fixups (u.at + 1) g next) ∙ not_added (p + 8) (p + 4) (Section k) (Section k) (drop (u.at + 1 + 1) fixups) (omega arith) in
    row_test-first l label 8 (Section k) c d 511 p u.fixup rest (omega (arith, past, same)) (row_stops l label 8 (Section k) c d 511 (p + 8) rest stops)

-- pairs of a section with itself, if register D doesn't hold it
pairs_apart : (l : Labels) (label k c x : ℕ) (f g : Fixup) (more : List Fixup) → g.base ≡ Section k → (class_of l.registers k == x) ≡ false → second_test l label k c x f (g ∷ more) ≡ true
pairs_apart l label k c x f g more base apart =
    subst (λ (b : Base). pair_test l label k c x f.offset (f ∷ g ∷ more) b ≡ true) (sym base) (rw apart refl)

second_shared : (b : CheckedSuffix) (u : TestedFixup) (k x : ℕ) → UnderTest b u → GoesOn b u (Section k) → second_test (labels_claimed b.claim) (label_of (labels_claimed b.claim) u.fixup (drop (u.at + 1) b.claim.fixups.now) (class_of b.claim.registers.now k) (class_of b.claim.registers.now k)) k (class_of b.claim.registers.now k) (class_of b.claim.registers.now k) u.fixup (drop (u.at + 1) b.claim.fixups.now) ≡ true → second_test (labels_claimed b.claim) (label_of (labels_claimed b.claim) u.fixup (drop (u.at + 1) b.claim.fixups.now) (class_of b.claim.registers.now k) x) k (class_of b.claim.registers.now k) x u.fixup (drop (u.at + 1) b.claim.fixups.now) ≡ true
second_shared b u k x under on here =
    let l = labels_claimed b.claim in
    let fixups = b.claim.fixups.now in
    let rest = drop (u.at + 1) fixups in
    let class : ℕ = class_of b.claim.registers.now k in
    let g = added (u.fixup.offset + 4) (Section k) in
    let next = added_there fixups (u.at + 1) (u.fixup.offset + 4) (Section k) on.adds in
    elim (eqb_tells class x) [
      | inl same ↦ subst (λ (y : ℕ). second_test l (label_of l u.fixup rest class y) k class y u.fixup rest ≡ true) same.1 here
      | inr other ↦ subst (λ (fs : List Fixup). second_test l (label_of l u.fixup rest class x) k class x u.fixup fs ≡ true) (sym (drop-here fixups (u.at + 1) g next))
          (pairs_apart l (label_of l u.fixup rest class x) k class x u.fixup g (drop (u.at + 1 + 1) fixups) refl other.0)
    ]

pub same-says : (b : CheckedSuffix) (u : TestedFixup) (k index class : ℕ) (t : TestedState) (answer : Bool) → UnderTest b u → u.fixup.base ≡ Section k → GoesOn b u (Section k) → class ≡ class_of b.claim.registers.now k → t ≡ state_of b.claim u class class → answer ≡ second_test (labels_claimed b.claim) t.label k t.c t.d t.fixup (drop (t.at + 1) b.claim.fixups.now) → Says answer (AllTests (labels_claimed b.claim) index u.fixup (drop (u.at + 1) b.claim.fixups.now))
same-says b u k index class t answer under base on of is test =
    let l = labels_claimed b.claim in
    let rest = drop (u.at + 1) b.claim.fixups.now in
    let held : ℕ = class_of b.claim.registers.now k in
    let stated = is ∙ ap (λ n. state_of b.claim u n n) of in
    let second = second-here b.claim u held held k t answer under.here stated test in
    let most = class_of-below l k in (
      λ e. section_all l index k u.fixup rest base (singles_shared b u (Section k) 1 under on (omega arith))
          (λ x under_x. (
            and_from _ _ (words_shared b u k held x under on most under_x (or_left (held == held) (held == x) (eq-eqb held held refl))) (second_shared b u k x under on (sym second ∙ e)),
            and_from _ _ (words_shared b u k x held under on under_x most (or_right (held == x) (held == held) (eq-eqb held held refl))) (spaced_shared b u k x held under on),
          )),
      λ all. second ∙ (and_parts (row_test l (label_of l u.fixup rest held held) 4 (Section k) held held 512 u.fixup.offset (u.fixup ∷ rest)) (second_test l (label_of l u.fixup rest held held) k held held u.fixup rest) (section_runs l index k u.fixup rest base all held most).0).1,
    )

-- runs of imports
least_cost : (m : ℕ) → 1 ≤ import_cost m
least_cost m = go (nat_lt m 512)
  where
    go : (b : Bool) → 1 ≤ cond b 1 2
    go true = omega arith
    go false = omega arith

imports_shared : (b : CheckedSuffix) (u : TestedFixup) (m c d : ℕ) → UnderTest b u → u.fixup.base ≡ Import m → GoesOn b u (Import (m + 1)) → c < length b.claim.registers.now + 1 → d < length b.claim.registers.now + 1 → numbered_test (labels_claimed b.claim) (label_of (labels_claimed b.claim) u.fixup (drop (u.at + 1) b.claim.fixups.now) c d) c d 512 u.fixup.offset m (u.fixup ∷ drop (u.at + 1) b.claim.fixups.now) ≡ true
imports_shared b u m c d under base on under_c under_d =
    let l = labels_claimed b.claim in
    let fixups = b.claim.fixups.now in
    let rest = drop (u.at + 1) fixups in
    let label = label_of l u.fixup rest c d in
    let t = state_of b.claim u c d in
    let index : m + 1 ≡ index_after (take (u.at + 1) fixups) 0 = sym (index_next fixups u.at u.fixup under.here ∙ ap (λ x. index_past x (index_after (take u.at fixups) 0)) base) in
    let met = imports-met b t (u.at + 1) (u.fixup.offset + 4) (m + 1) (state_tests b u c d under under_c under_d) (omega arith) index on.adds in
    let same = shared_label b u c d under on.shares in
    let low = near_low b u (Import (m + 1)) c d under on in
    numbered_test-first l label c d 511 u.fixup.offset m u.fixup rest (omega (arith, low))
    (numbered_test-weaker l label (label_after b t (u.at + 1)) c d 511 512 (u.fixup.offset + 4) (m + 1) rest (omega (arith, same)) (omega arith) met)

pub next-holds : (b : CheckedSuffix) (u : TestedFixup) (m index : ℕ) → UnderTest b u → u.fixup.base ≡ Import m → GoesOn b u (Import (m + 1)) → AllTests (labels_claimed b.claim) index u.fixup (drop (u.at + 1) b.claim.fixups.now)
next-holds b u m index under base on =
    import_all (labels_claimed b.claim) index m u.fixup (drop (u.at + 1) b.claim.fixups.now) base (singles_shared b u (Import (m + 1)) (import_cost m) under on (least_cost m))
    (λ is c under_c d under_d. imports_shared b u m c d under base on under_c under_d)
