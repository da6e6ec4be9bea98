-- The tests of the runs that begin at a later label than the tested one hold. So if a run continues there and
-- that label is no lower, all longer ends are covered.
use Rattle.std.proofs.Common.{◌≡◌, ℕ, zero, suc, ◌+◌, ◌<◌, ◌≤◌, Bool, true, ◌&&◌, ◌||◌, ◌==◌, List, [], ◌∷◌, length, take, drop, Some, ap, sym, ◌∙◌, subst, arith, slice_get, eq-eqb}
use Rattle.std.proofs.Math.Path.{ap₂}
use Rattle.std.proofs.lemmas.Bool.{and_parts}
use Rattle.pef_reloc.specs.declared.fixup.Base.{Base}
use Rattle.pef_reloc.specs.declared.fixup.Base.TheVariants.{Section, Import}
use Rattle.pef_reloc.specs.declared.fixup.Fixup.{Fixup}
use Rattle.pef_reloc.specs.Deliveries.{index_after, index_past}
use Rattle.pef_reloc.specs.Steps.{added}
use Rattle.pef_words.proofs.Laws.Lists.{drop-here}
use Rattle.pef_cert.specs.declared.claim.CheckedSuffix.{CheckedSuffix}
use Rattle.pef_cert.specs.declared.runs.TestedState.{TestedState}
use Rattle.pef_cert.specs.Labels.{Labels, class_of}
use Rattle.pef_cert.specs.Feasible.{FeasibleAt, FeasibleFrom}
use Rattle.pef_cert.specs.Kept.Claims.{PairsMet, RowMet, Tests, label_after, labels_claimed}
use Rattle.pef_cert.specs.Kept.Tests.{adds_first}
use Rattle.pef_cert.specs.LabelTests.{adds_test, numbered_test, pairs_test, row_test, second_test}
use Rattle.pef_cert.proofs.ClaimLemmas.{label_there}
use Rattle.pef_cert.proofs.FeasibleLemmas.{needed_of}
use Rattle.pef_cert.proofs.RunLemmas.{numbered_test-weaker, pairs_test-weaker, row_test-weaker}
use Rattle.pef_cert.proofs.StepLemmas.{added_there}
use Rattle.pef_cert.proofs.SweepLemmas.{feasible-there, index_next}
use Rattle.pef_cert.proofs.TestLemmas.{PairTests, SectionTests, import_tests, pair_tests, section_tests}

-- labels that are feasible from one index on are feasible at each later one
pub feasible-later : (l : Labels) (index : ℕ) (fixups : List Fixup) (from j : ℕ) (f : Fixup) → FeasibleFrom l (index_after (take from fixups) index) (drop from fixups) → from ≤ j → slice_get fixups j ≡ Some f → FeasibleAt l (index_after (take j fixups) index) f (drop (j + 1) fixups)
feasible-later l index fixups zero j f beyond after e = feasible-there l index fixups j f e beyond
feasible-later l index [] (suc from) j f beyond after e = absurd (cc)
feasible-later l index (g ∷ fixups) (suc from) zero f beyond after e = absurd (omega (arith, after))
feasible-later l index (g ∷ fixups) (suc from) (suc j) f beyond after e =
    let step : suc j + 1 ≡ suc (j + 1) = omega arith in
    subst (λ (n : ℕ). FeasibleAt l (index_after (take j fixups) (index_past g.base index)) f (drop n (g ∷ fixups))) (sym step)
    (feasible-later l (index_past g.base index) fixups from j f beyond (omega (arith, after)) e)

-- the tests that hold for a label after the tested one
tests_after : (b : CheckedSuffix) (t : TestedState) (j : ℕ) (g : Fixup) → Tests b t → t.at < j → slice_get b.claim.fixups.now j ≡ Some g → adds_test (labels_claimed b.claim) (index_after (take j b.claim.fixups.now) 0) g (drop (j + 1) b.claim.fixups.now) t.c t.d ≡ true
tests_after b t j g tests after e =
    let fixups = b.claim.fixups.now in
    let feasible = feasible-later (labels_claimed b.claim) 0 fixups (t.at + 1) j g tests.beyond (omega (arith, after)) e in
    let needed = needed_of b.claim j (index_after (take j fixups) 0) g tests.knows.shaped e feasible in
    needed.adds t.c t.d tests.c_class tests.d_class

-- the label of a later addition, and the fixups left there
abbrev label_added : CheckedSuffix → TestedState → ℕ → ℕ → Base → ℕ
label_added b t j p base = (labels_claimed b.claim).label (length (added p base ∷ drop (j + 1) b.claim.fixups.now)) t.c t.d

section_after : (b : CheckedSuffix) (t : TestedState) (j p k : ℕ) → Tests b t → t.at < j → adds_first p (Section k) (drop j b.claim.fixups.now) ≡ true → SectionTests (labels_claimed b.claim) (label_added b t j p (Section k)) k (added p (Section k)) (drop (j + 1) b.claim.fixups.now) t.c t.d
section_after b t j p k tests after adds =
    let fixups = b.claim.fixups.now in
    let e = added_there fixups j p (Section k) adds in
    section_tests (labels_claimed b.claim) (label_added b t j p (Section k)) (index_after (take j fixups) 0) k (added p (Section k)) (drop (j + 1) fixups) t.c t.d (tests_after b t j (added p (Section k)) tests after e)

-- runs of a section that a register holds
row_after : (b : CheckedSuffix) (t : TestedState) (j p k w : ℕ) → adds_first p (Section k) (drop j b.claim.fixups.now) ≡ true → row_test (labels_claimed b.claim) (label_added b t j p (Section k)) w (Section k) t.c t.d 512 p (added p (Section k) ∷ drop (j + 1) b.claim.fixups.now) ≡ true → row_test (labels_claimed b.claim) (label_after b t j) w (Section k) t.c t.d 512 p (drop j b.claim.fixups.now) ≡ true
row_after b t j p k w adds met =
    let l = labels_claimed b.claim in
    let fixups = b.claim.fixups.now in
    let e = added_there fixups j p (Section k) adds in
    ap₂ (λ n fs. row_test l n w (Section k) t.c t.d 512 p fs) (label_there l fixups j (added p (Section k)) t.c t.d e) (drop-here fixups j (added p (Section k)) e) ∙ met

pub words-met : (b : CheckedSuffix) (t : TestedState) (k class : ℕ) → Tests b t → class ≡ class_of b.claim.registers.now k → (class == t.c || class == t.d) ≡ true → RowMet b t 4 (Section k)
words-met b t k class tests is either = λ j p after adds.
    let behind = section_after b t j p k tests after adds in
    row_after b t j p k 4 adds (behind.words (subst (λ (n : ℕ). (n == t.c || n == t.d) ≡ true) is either))

pub spaced-met : (b : CheckedSuffix) (t : TestedState) (k class : ℕ) → Tests b t → class ≡ class_of b.claim.registers.now k → class ≡ t.d → RowMet b t 8 (Section k)
spaced-met b t k class tests is in_d = λ j p after adds.
    let behind = section_after b t j p k tests after adds in
    row_after b t j p k 8 adds (behind.spaced (eq-eqb (class_of b.claim.registers.now k) t.d (sym is ∙ in_d)))

-- runs of pairs of sections
pairs_after : (b : CheckedSuffix) (t : TestedState) (j p k i : ℕ) → Tests b t → t.at < j → class_of b.claim.registers.now k ≡ t.c → class_of b.claim.registers.now i ≡ t.d → (adds_first p (Section k) (drop j b.claim.fixups.now) && adds_first (p + 4) (Section i) (drop (j + 1) b.claim.fixups.now)) ≡ true → PairTests (labels_claimed b.claim) (label_after b t j) k i t.c t.d p (drop j b.claim.fixups.now)
pairs_after b t j p k i tests after in_c in_d adds =
    let l = labels_claimed b.claim in
    let fixups = b.claim.fixups.now in
    let both = and_parts (adds_first p (Section k) (drop j fixups)) (adds_first (p + 4) (Section i) (drop (j + 1) fixups)) adds in
    let e = added_there fixups j p (Section k) both.0 in
    let next = drop-here fixups (j + 1) (added (p + 4) (Section i)) (added_there fixups (j + 1) (p + 4) (Section i) both.1) in
    let behind = section_after b t j p k tests after both.0 in
    let met = behind.second (eq-eqb (class_of b.claim.registers.now k) t.c in_c) in
    let there = subst (λ (fs : List Fixup). second_test l (label_added b t j p (Section k)) k t.c t.d (added p (Section k)) fs ≡ true) next met in
    let two = pair_tests l (label_added b t j p (Section k)) k i t.c t.d p (added p (Section k) ∷ added (p + 4) (Section i) ∷ drop (j + 1 + 1) fixups) (eq-eqb (class_of b.claim.registers.now i) t.d in_d) there in
    let whole = drop-here fixups j (added p (Section k)) e ∙ ap (λ fs. added p (Section k) ∷ fs) next in
    subst (λ (n : ℕ). PairTests l n k i t.c t.d p (drop j fixups)) (sym (label_there l fixups j (added p (Section k)) t.c t.d e))
    (subst (λ (fs : List Fixup). PairTests l (label_added b t j p (Section k)) k i t.c t.d p fs) (sym whole) two)

pub near-met : (b : CheckedSuffix) (t : TestedState) (k i : ℕ) → Tests b t → class_of b.claim.registers.now k ≡ t.c → class_of b.claim.registers.now i ≡ t.d → PairsMet b t 8 (Section k) (Section i)
near-met b t k i tests in_c in_d = λ j p after adds. (pairs_after b t j p k i tests after in_c in_d adds).near

pub far-met : (b : CheckedSuffix) (t : TestedState) (k i : ℕ) → Tests b t → class_of b.claim.registers.now k ≡ t.c → class_of b.claim.registers.now i ≡ t.d → PairsMet b t 12 (Section k) (Section i)
far-met b t k i tests in_c in_d = λ j p after adds. (pairs_after b t j p k i tests after in_c in_d adds).far

-- runs of imports
pub imports-met : (b : CheckedSuffix) (t : TestedState) (j p m : ℕ) → Tests b t → t.at < j → m ≡ index_after (take j b.claim.fixups.now) 0 → adds_first p (Import m) (drop j b.claim.fixups.now) ≡ true → numbered_test (labels_claimed b.claim) (label_after b t j) t.c t.d 512 p m (drop j b.claim.fixups.now) ≡ true
imports-met b t j p m tests after index adds =
    let l = labels_claimed b.claim in
    let fixups = b.claim.fixups.now in
    let e = added_there fixups j p (Import m) adds in
    let behind = import_tests l (label_added b t j p (Import m)) (index_after (take j fixups) 0) m (added p (Import m)) (drop (j + 1) fixups) t.c t.d (tests_after b t j (added p (Import m)) tests after e) in
    ap₂ (λ n fs. numbered_test l n t.c t.d 512 p m fs) (label_there l fixups j (added p (Import m)) t.c t.d e) (drop-here fixups j (added p (Import m)) e)
    ∙ behind.imports (eq-eqb m (index_after (take j fixups) 0) index)

-- the import index after an import that is added
pub index-added : (fixups : List Fixup) (at p m : ℕ) → adds_first p (Import m) (drop at fixups) ≡ true → m + 1 ≡ index_after (take (at + 1) fixups) 0
index-added fixups at p m adds = sym (index_next fixups at (added p (Import m)) (added_there fixups at p (Import m) adds))

-- a run that continues at a label that is no lower
pub row-covered : (l : Labels) (label low w : ℕ) (b : Base) (c d n p at : ℕ) (fixups : List Fixup) (all : Bool) → label ≤ low → n ≤ 512 → row_test l label w b c d n p (drop at fixups) ≡ all → row_test l low w b c d 512 p (drop at fixups) ≡ true → true ≡ all
row-covered l label low w b c d n p at fixups all under few left met = sym (row_test-weaker l label low w b c d n 512 p (drop at fixups) under few met) ∙ left

pub pairs-covered : (l : Labels) (label low w : ℕ) (b b' : Base) (c d n p at : ℕ) (fixups : List Fixup) (all : Bool) → label ≤ low → n ≤ 512 → pairs_test l label w b b' c d n p (drop at fixups) ≡ all → pairs_test l low w b b' c d 512 p (drop at fixups) ≡ true → true ≡ all
pairs-covered l label low w b b' c d n p at fixups all under few left met = sym (pairs_test-weaker l label low w b b' c d n 512 p (drop at fixups) under few met) ∙ left

pub numbered-covered : (l : Labels) (label low c d n p m at : ℕ) (fixups : List Fixup) (all : Bool) → label ≤ low → n ≤ 512 → numbered_test l label c d n p m (drop at fixups) ≡ all → numbered_test l low c d 512 p m (drop at fixups) ≡ true → true ≡ all
numbered-covered l label low c d n p m at fixups all under few left met = sym (numbered_test-weaker l label low c d n 512 p m (drop at fixups) under few met) ∙ left
