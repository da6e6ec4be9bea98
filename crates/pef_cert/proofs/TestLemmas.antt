-- Labels are feasible at a fixup exactly if the tests of a check hold.
use Rattle.std.proofs.Common.{◌≡◌, ℕ, zero, suc, ◌+◌, ◌*◌, ◌<◌, ◌≤◌, Bool, true, false, cond, ◌&&◌, ◌||◌, ◌==◌, nat_le, nat_lt, List, [], ◌∷◌, ◌++◌, length, refl, ap, sym, ◌∙◌, subst, arith, eq-eqb}
use Rattle.std.proofs.lemmas.Bool.{leb-true, le-leb, or_right, or_left, and_from, and_parts}
use Rattle.pef_reloc.specs.declared.fixup.Base.{Base}
use Rattle.pef_reloc.specs.declared.fixup.Base.TheVariants.{Section, Import}
use Rattle.pef_reloc.specs.declared.fixup.Fixup.{Fixup}
use Rattle.pef_reloc.specs.declared.instr.Instr.{Instr}
use Rattle.pef_reloc.specs.declared.instr.Instr.TheVariants.{BySectDWithSkip, BySectC, BySectD, TVector12, TVector8, VTable8, ImportRun, SmByImport, SmSetSectC, SmSetSectD, SmBySection, IncrPosition, SmRepeat, SetPosition, LgByImport, LgRepeat, LgBySection, LgSetSectC, LgSetSectD}
use Rattle.pef_reloc.specs.Deliveries.{is_flat_instr, sets_register}
use Rattle.pef_reloc.specs.Instrs.{instr_length}
use Rattle.pef_reloc.specs.Steps.{State, added, additions, next_state, numbered, pairs, row}
use Rattle.pef_cert.specs.Labels.{Labels, class_of}
use Rattle.pef_cert.specs.Extension.{extension, extension_at}
use Rattle.pef_cert.specs.Feasible.{AtFixup, FeasibleAt, label_at}
use Rattle.pef_cert.specs.LabelTests.{SetsHold, TestsHold, adds_test, asked, base_test, import_cost, numbered_test, one_from, pair_test, pairs_test, row_test, second_test}
use Rattle.pef_cert.proofs.ClassLemmas.{class_of-below}
use Rattle.pef_cert.proofs.ExtensionLemmas.{extension-here}
use Rattle.pef_cert.proofs.RunLemmas.{numbered_test-holds, pairs_test-holds, row_test-holds}

pub asked-met : (b test : Bool) → (b ≡ true → test ≡ true) → asked b test ≡ true
asked-met true test holds = holds refl
asked-met false test holds = refl

asked-holds : (b test : Bool) → asked b test ≡ true → b ≡ true → test ≡ true
asked-holds true test e met = e
asked-holds false test e met = absurd (cc)

-- the tests of a section's fixup, one by one
pub record SectionTests (l : Labels) (label k : ℕ) (f : Fixup) (rest : List Fixup) (c d : ℕ) : Type 0 where
  pub single : one_from l label rest (f.offset + 4) c d ≡ true
  pub words : (class_of l.registers k == c || class_of l.registers k == d) ≡ true → row_test l label 4 (Section k) c d 512 f.offset (f ∷ rest) ≡ true
  pub spaced : (class_of l.registers k == d) ≡ true → row_test l label 8 (Section k) c d 512 f.offset (f ∷ rest) ≡ true
  pub second : (class_of l.registers k == c) ≡ true → second_test l label k c d f rest ≡ true

pub section_tests : (l : Labels) (label index k : ℕ) (f : Fixup) (rest : List Fixup) (c d : ℕ) → base_test l label index f rest c d (Section k) ≡ true → SectionTests l label k f rest c d
section_tests l label index k f rest c d e =
    let single = one_from l label rest (f.offset + 4) c d in
    let words = asked (class_of l.registers k == c || class_of l.registers k == d) (row_test l label 4 (Section k) c d 512 f.offset (f ∷ rest)) in
    let spaced = asked (class_of l.registers k == d) (row_test l label 8 (Section k) c d 512 f.offset (f ∷ rest)) in
    let second = asked (class_of l.registers k == c) (second_test l label k c d f rest) in
    let three = and_parts (single && words && spaced) second e in
    let two = and_parts (single && words) spaced three.0 in
    let one = and_parts single words two.0 in
    record {
      single = one.0;
      words = asked-holds (class_of l.registers k == c || class_of l.registers k == d) (row_test l label 4 (Section k) c d 512 f.offset (f ∷ rest)) one.1;
      spaced = asked-holds (class_of l.registers k == d) (row_test l label 8 (Section k) c d 512 f.offset (f ∷ rest)) two.1;
      second = asked-holds (class_of l.registers k == c) (second_test l label k c d f rest) three.1;
    }

pub section_tests-met : (l : Labels) (label index k : ℕ) (f : Fixup) (rest : List Fixup) (c d : ℕ) → SectionTests l label k f rest c d → base_test l label index f rest c d (Section k) ≡ true
section_tests-met l label index k f rest c d t =
    let single = one_from l label rest (f.offset + 4) c d in
    let words = asked (class_of l.registers k == c || class_of l.registers k == d) (row_test l label 4 (Section k) c d 512 f.offset (f ∷ rest)) in
    let spaced = asked (class_of l.registers k == d) (row_test l label 8 (Section k) c d 512 f.offset (f ∷ rest)) in
    let second = asked (class_of l.registers k == c) (second_test l label k c d f rest) in
    and_from (single && words && spaced) second
    (and_from (single && words) spaced
    (and_from single words t.single
    (asked-met (class_of l.registers k == c || class_of l.registers k == d) (row_test l label 4 (Section k) c d 512 f.offset (f ∷ rest)) t.words))
    (asked-met (class_of l.registers k == d) (row_test l label 8 (Section k) c d 512 f.offset (f ∷ rest)) t.spaced))
    (asked-met (class_of l.registers k == c) (second_test l label k c d f rest) t.second)

-- the tests of an import's fixup
pub record ImportTests (l : Labels) (label index k : ℕ) (f : Fixup) (rest : List Fixup) (c d : ℕ) : Type 0 where
  pub single : label ≤ import_cost k + extension l rest (f.offset + 4) c d
  pub imports : (k == index) ≡ true → numbered_test l label c d 512 f.offset k (f ∷ rest) ≡ true

pub import_tests : (l : Labels) (label index k : ℕ) (f : Fixup) (rest : List Fixup) (c d : ℕ) → base_test l label index f rest c d (Import k) ≡ true → ImportTests l label index k f rest c d
import_tests l label index k f rest c d e =
    let single = nat_le label (import_cost k + extension l rest (f.offset + 4) c d) in
    let imports = asked (k == index) (numbered_test l label c d 512 f.offset k (f ∷ rest)) in
    let both = and_parts single imports e in
    record {
      single = leb-true label (import_cost k + extension l rest (f.offset + 4) c d) both.0;
      imports = asked-holds (k == index) (numbered_test l label c d 512 f.offset k (f ∷ rest)) both.1;
    }

pub import_tests-met : (l : Labels) (label index k : ℕ) (f : Fixup) (rest : List Fixup) (c d : ℕ) → ImportTests l label index k f rest c d → base_test l label index f rest c d (Import k) ≡ true
import_tests-met l label index k f rest c d t =
    and_from (nat_le label (import_cost k + extension l rest (f.offset + 4) c d)) (asked (k == index) (numbered_test l label c d 512 f.offset k (f ∷ rest)))
    (le-leb label (import_cost k + extension l rest (f.offset + 4) c d) t.single)
    (asked-met (k == index) (numbered_test l label c d 512 f.offset k (f ∷ rest)) t.imports)

-- the word that begins a run
first_word : (f g : Fixup) (rest more : List Fixup) → f ∷ rest ≡ g ∷ more → f ≡ g
first_word f g rest more e = cc

-- words of a section follow the fixup, and the tests of its state hold
falls_row : (l : Labels) (label index : ℕ) (f : Fixup) (rest left : List Fixup) (c d k n p w : ℕ) → base_test l label index f rest c d f.base ≡ true → p ≡ f.offset → n < 512 → f ∷ rest ≡ row (suc n) p w (Section k) ++ left → (SectionTests l label k f rest c d → row_test l label w (Section k) c d 512 f.offset (f ∷ rest) ≡ true) → label ≤ 1 + extension l left (p + w * suc n) c d
unfolding row
falls_row l label index f rest left c d k n p w met at few words choose =
    let base : f.base ≡ Section k = ap (λ (g : Fixup). g.base) (first_word f (added p (Section k)) rest (row n (p + w) w (Section k) ++ left) words) in
    let tests = section_tests l label index k f rest c d (subst (λ (b : Base). base_test l label index f rest c d b ≡ true) base met) in
    let low = row_test-holds l label w (Section k) c d 512 f.offset (f ∷ rest) (choose tests) n left few (words ∙ ap (λ q. row (suc n) q w (Section k) ++ left) at) in
    let same = ap (λ q. extension l left (q + w * suc n) c d) at in
    omega (arith, low, same)

falls_words : (l : Labels) (label index : ℕ) (f : Fixup) (rest left : List Fixup) (c d k n p : ℕ) → base_test l label index f rest c d f.base ≡ true → p ≡ f.offset → n < 512 → f ∷ rest ≡ row (suc n) p 4 (Section k) ++ left → (class_of l.registers k == c || class_of l.registers k == d) ≡ true → label ≤ 1 + extension l left (p + 4 * suc n) c d
falls_words l label index f rest left c d k n p met at few words either = falls_row l label index f rest left c d k n p 4 met at few words (λ t. t.words either)

falls_spaced : (l : Labels) (label index : ℕ) (f : Fixup) (rest left : List Fixup) (c d k n p : ℕ) → base_test l label index f rest c d f.base ≡ true → p ≡ f.offset → n < 512 → f ∷ rest ≡ row (suc n) p 8 (Section k) ++ left → (class_of l.registers k == d) ≡ true → label ≤ 1 + extension l left (p + 8 * suc n) c d
falls_spaced l label index f rest left c d k n p met at few words is = falls_row l label index f rest left c d k n p 8 met at few words (λ t. t.spaced is)

-- the two tests of pairs that begin the fixups
pub record PairTests (l : Labels) (label k j : ℕ) (c d p : ℕ) (fixups : List Fixup) : Type 0 where
  pub near : pairs_test l label 8 (Section k) (Section j) c d 512 p fixups ≡ true
  pub far : pairs_test l label 12 (Section k) (Section j) c d 512 p fixups ≡ true

pub pair_tests : (l : Labels) (label k j c d p : ℕ) (fixups : List Fixup) → (class_of l.registers j == d) ≡ true → pair_test l label k c d p fixups (Section j) ≡ true → PairTests l label k j c d p fixups
pair_tests l label k j c d p fixups is e =
    let near = pairs_test l label 8 (Section k) (Section j) c d 512 p fixups in
    let far = pairs_test l label 12 (Section k) (Section j) c d 512 p fixups in
    let both = and_parts near far (asked-holds (class_of l.registers j == d) (near && far) e is) in
    record { near = both.0; far = both.1 }

second_tests : (l : Labels) (label k j c d w n : ℕ) (f : Fixup) (rest left : List Fixup) → f ∷ rest ≡ pairs (suc n) f.offset w (Section k) (Section j) ++ left → (class_of l.registers j == d) ≡ true → second_test l label k c d f rest ≡ true → PairTests l label k j c d f.offset (f ∷ rest)
unfolding pairs
second_tests l label k j c d w n f [] left words is e = let wrong : ◌≡◌ {A = List Fixup} [] (added (f.offset + 4) (Section j) ∷ (pairs n (f.offset + w) w (Section k) (Section j) ++ left)) = cc in absurd (cc)
second_tests l label k j c d w n f (g ∷ rest) left words is e =
    let second : g ≡ added (f.offset + 4) (Section j) = cc in
    let base : g.base ≡ Section j = ap (λ (h : Fixup). h.base) second in
    pair_tests l label k j c d f.offset (f ∷ g ∷ rest) is (subst (λ (b : Base). pair_test l label k c d f.offset (f ∷ g ∷ rest) b ≡ true) base e)

-- pairs of sections follow the fixup
falls_pairs : (l : Labels) (label index : ℕ) (f : Fixup) (rest left : List Fixup) (c d k j n p w : ℕ) → base_test l label index f rest c d f.base ≡ true → p ≡ f.offset → n < 512 → f ∷ rest ≡ pairs (suc n) p w (Section k) (Section j) ++ left → (class_of l.registers k == c) ≡ true → (class_of l.registers j == d) ≡ true → (PairTests l label k j c d f.offset (f ∷ rest) → pairs_test l label w (Section k) (Section j) c d 512 f.offset (f ∷ rest) ≡ true) → label ≤ 1 + extension l left (p + w * suc n) c d
unfolding pairs
falls_pairs l label index f rest left c d k j n p w met at few words is also choose =
    let base : f.base ≡ Section k = ap (λ (g : Fixup). g.base) (first_word f (added p (Section k)) rest (added (p + 4) (Section j) ∷ (pairs n (p + w) w (Section k) (Section j) ++ left)) words) in
    let tests = section_tests l label index k f rest c d (subst (λ (b : Base). base_test l label index f rest c d b ≡ true) base met) in
    let here : f ∷ rest ≡ pairs (suc n) f.offset w (Section k) (Section j) ++ left = words ∙ ap (λ q. pairs (suc n) q w (Section k) (Section j) ++ left) at in
    let two = second_tests l label k j c d w n f rest left here also (tests.second is) in
    let low = pairs_test-holds l label w (Section k) (Section j) c d 512 f.offset (f ∷ rest) (choose two) n left few here in
    let same = ap (λ q. extension l left (q + w * suc n) c d) at in
    omega (arith, low, same)

-- imports in turn follow the fixup
falls_imports : (l : Labels) (label index : ℕ) (f : Fixup) (rest left : List Fixup) (c d n p : ℕ) → base_test l label index f rest c d f.base ≡ true → p ≡ f.offset → n < 512 → f ∷ rest ≡ numbered (suc n) p index ++ left → label ≤ 1 + extension l left (p + 4 * suc n) c d
unfolding numbered
falls_imports l label index f rest left c d n p met at few words =
    let base : f.base ≡ Import index = ap (λ (g : Fixup). g.base) (first_word f (added p (Import index)) rest (numbered n (p + 4) (index + 1) ++ left) words) in
    let tests = import_tests l label index index f rest c d (subst (λ (b : Base). base_test l label index f rest c d b ≡ true) base met) in
    let low = numbered_test-holds l label c d 512 f.offset index (f ∷ rest) (tests.imports (eq-eqb index index refl)) n left few (words ∙ ap (λ q. numbered (suc n) q index ++ left) at) in
    let same = ap (λ q. extension l left (q + 4 * suc n) c d) at in
    omega (arith, low, same)

-- the one fixup is added
falls_single : (l : Labels) (label index : ℕ) (f : Fixup) (rest left : List Fixup) (c d p n : ℕ) (b : Base) → base_test l label index f rest c d f.base ≡ true → p ≡ f.offset → f ∷ rest ≡ added p b ∷ left → ((x : ℕ) → base_test l x index f rest c d b ≡ true → x ≤ n + extension l rest (f.offset + 4) c d) → label ≤ n + extension l left (p + 4) c d
falls_single l label index f rest left c d p n b met at words choose =
    let first = first_word f (added p b) rest left words in
    let others : rest ≡ left = cc in
    let base : f.base ≡ b = ap (λ (g : Fixup). g.base) first in
    let low = choose label (subst (λ (x : Base). base_test l label index f rest c d x ≡ true) base met) in
    let same = ap (λ fs. extension l fs (f.offset + 4) c d) others ∙ ap (λ q. extension l left (q + 4) c d) (sym at) in
    omega (arith, low, same)

pub single_section : (l : Labels) (label index k : ℕ) (f : Fixup) (rest : List Fixup) (c d n : ℕ) → 1 ≤ n → base_test l label index f rest c d (Section k) ≡ true → label ≤ n + extension l rest (f.offset + 4) c d
single_section l label index k f rest c d n some e =
    let tests = section_tests l label index k f rest c d e in
    let low = leb-true label (1 + extension l rest (f.offset + 4) c d) tests.single in
    omega (arith, low)

pub single_import : (l : Labels) (label index k : ℕ) (f : Fixup) (rest : List Fixup) (c d n : ℕ) → import_cost k ≤ n → base_test l label index f rest c d (Import k) ≡ true → label ≤ n + extension l rest (f.offset + 4) c d
single_import l label index k f rest c d n some e =
    let tests = import_tests l label index k f rest c d e in
    let low = tests.single in
    omega (arith, low)

small_cost : (k : ℕ) → nat_lt k 512 ≡ true → import_cost k ≤ 1
small_cost k small = rw small (omega arith)

pub any_cost : (k : ℕ) → import_cost k ≤ 2
any_cost k = go (nat_lt k 512)
  where
    go : (b : Bool) → cond b 1 2 ≤ 2
    go true = omega arith
    go false = omega arith

-- the statement to prove for a number for which the tests of a state's label hold
abbrev TestedState : Labels → ℕ → Instr → State → List Fixup → Type 0
TestedState l label x s left = label ≤ instr_length x + extension_at l left (next_state x s)

nothing_made : (l : Labels) (label : ℕ) (x : Instr) (s : State) (f : Fixup) (rest left : List Fixup) → f ∷ rest ≡ left → length left < length (f ∷ rest) → TestedState l label x s left
nothing_made l label x s f rest left same shorter = let e = ap length same in absurd (omega (arith, e))

count_under : (n : ℕ) → (nat_le 1 (suc n) && nat_le (suc n) 512) ≡ true → n < 512
count_under n fits = let under = leb-true (suc n) 512 (and_parts (nat_le 1 (suc n)) (nat_le (suc n) 512) fits).1 in omega (arith, under)

pub tested : (l : Labels) (label : ℕ) (x : Instr) (s : State) (f : Fixup) (rest left : List Fixup) → base_test l label s.import_index f rest (class_of l.registers s.c) (class_of l.registers s.d) f.base ≡ true → s.position ≡ f.offset → is_flat_instr x ≡ true → f ∷ rest ≡ additions x s ++ left → length left < length (f ∷ rest) → TestedState l label x s left
unfolding row pairs numbered
tested l label (BySectDWithSkip u zero) s f rest left met at flat words shorter = nothing_made l label (BySectDWithSkip u zero) s f rest left words shorter
tested l label (BySectDWithSkip zero (suc t)) s f rest left met at flat words shorter =
    let few = leb-true (suc t) 63 (and_parts (nat_le zero 255) (nat_le (suc t) 63) flat).1 in
    let here : s.position + 4 * zero ≡ f.offset = omega (arith, at) in
    let low = falls_words l label s.import_index f rest left (class_of l.registers s.c) (class_of l.registers s.d) s.d t (s.position + 4 * zero) met here (omega (arith, few)) words (or_right (class_of l.registers s.d == class_of l.registers s.c) (class_of l.registers s.d == class_of l.registers s.d) (eq-eqb (class_of l.registers s.d) (class_of l.registers s.d) refl)) in
    let end : s.position + 4 * zero + 4 * suc t ≡ s.position + (4 * zero + 4 * suc t) = omega arith in
    let same = ap (λ q. extension l left q (class_of l.registers s.c) (class_of l.registers s.d)) end in
    omega (arith, low, same)
tested l label (BySectDWithSkip (suc u) (suc t)) s f rest left met at flat words shorter =
    let first = first_word f (added (s.position + 4 * suc u) (Section s.d)) rest (row t (s.position + 4 * suc u + 4) 4 (Section s.d) ++ left) words in
    let apart = ap (λ (g : Fixup). g.offset) first in
    absurd (omega (arith, at, apart))
tested l label (BySectC zero) s f rest left met at flat words shorter = absurd (cc)
tested l label (BySectC (suc n)) s f rest left met at flat words shorter =
    falls_words l label s.import_index f rest left (class_of l.registers s.c) (class_of l.registers s.d) s.c n s.position met at (count_under n flat) words (or_left (class_of l.registers s.c == class_of l.registers s.c) (class_of l.registers s.c == class_of l.registers s.d) (eq-eqb (class_of l.registers s.c) (class_of l.registers s.c) refl))
tested l label (BySectD zero) s f rest left met at flat words shorter = absurd (cc)
tested l label (BySectD (suc n)) s f rest left met at flat words shorter =
    falls_words l label s.import_index f rest left (class_of l.registers s.c) (class_of l.registers s.d) s.d n s.position met at (count_under n flat) words (or_right (class_of l.registers s.d == class_of l.registers s.c) (class_of l.registers s.d == class_of l.registers s.d) (eq-eqb (class_of l.registers s.d) (class_of l.registers s.d) refl))
tested l label (TVector12 zero) s f rest left met at flat words shorter = absurd (cc)
tested l label (TVector12 (suc n)) s f rest left met at flat words shorter =
    falls_pairs l label s.import_index f rest left (class_of l.registers s.c) (class_of l.registers s.d) s.c s.d n s.position 12 met at (count_under n flat) words (eq-eqb (class_of l.registers s.c) (class_of l.registers s.c) refl) (eq-eqb (class_of l.registers s.d) (class_of l.registers s.d) refl) (λ t. t.far)
tested l label (TVector8 zero) s f rest left met at flat words shorter = absurd (cc)
tested l label (TVector8 (suc n)) s f rest left met at flat words shorter =
    falls_pairs l label s.import_index f rest left (class_of l.registers s.c) (class_of l.registers s.d) s.c s.d n s.position 8 met at (count_under n flat) words (eq-eqb (class_of l.registers s.c) (class_of l.registers s.c) refl) (eq-eqb (class_of l.registers s.d) (class_of l.registers s.d) refl) (λ t. t.near)
tested l label (VTable8 zero) s f rest left met at flat words shorter = absurd (cc)
tested l label (VTable8 (suc n)) s f rest left met at flat words shorter =
    falls_spaced l label s.import_index f rest left (class_of l.registers s.c) (class_of l.registers s.d) s.d n s.position met at (count_under n flat) words (eq-eqb (class_of l.registers s.d) (class_of l.registers s.d) refl)
tested l label (ImportRun zero) s f rest left met at flat words shorter = absurd (cc)
tested l label (ImportRun (suc n)) s f rest left met at flat words shorter =
    falls_imports l label s.import_index f rest left (class_of l.registers s.c) (class_of l.registers s.d) n s.position met at (count_under n flat) words
tested l label (SmByImport k) s f rest left met at flat words shorter =
    falls_single l label s.import_index f rest left (class_of l.registers s.c) (class_of l.registers s.d) s.position 1 (Import k) met at words (λ x. single_import l x s.import_index k f rest (class_of l.registers s.c) (class_of l.registers s.d) 1 (small_cost k flat))
tested l label (SmSetSectC k) s f rest left met at flat words shorter = nothing_made l label (SmSetSectC k) s f rest left words shorter
tested l label (SmSetSectD k) s f rest left met at flat words shorter = nothing_made l label (SmSetSectD k) s f rest left words shorter
tested l label (SmBySection k) s f rest left met at flat words shorter =
    falls_single l label s.import_index f rest left (class_of l.registers s.c) (class_of l.registers s.d) s.position 1 (Section k) met at words (λ x. single_section l x s.import_index k f rest (class_of l.registers s.c) (class_of l.registers s.d) 1 (omega arith))
tested l label (IncrPosition k) s f rest left met at flat words shorter = nothing_made l label (IncrPosition k) s f rest left words shorter
tested l label (SmRepeat blocks count) s f rest left met at flat words shorter = absurd (cc)
tested l label (SetPosition k) s f rest left met at flat words shorter = nothing_made l label (SetPosition k) s f rest left words shorter
tested l label (LgByImport k) s f rest left met at flat words shorter =
    falls_single l label s.import_index f rest left (class_of l.registers s.c) (class_of l.registers s.d) s.position 2 (Import k) met at words (λ x. single_import l x s.import_index k f rest (class_of l.registers s.c) (class_of l.registers s.d) 2 (any_cost k))
tested l label (LgRepeat blocks count) s f rest left met at flat words shorter = absurd (cc)
tested l label (LgBySection k) s f rest left met at flat words shorter =
    falls_single l label s.import_index f rest left (class_of l.registers s.c) (class_of l.registers s.d) s.position 2 (Section k) met at words (λ x. single_section l x s.import_index k f rest (class_of l.registers s.c) (class_of l.registers s.d) 2 (omega arith))
tested l label (LgSetSectC k) s f rest left met at flat words shorter = nothing_made l label (LgSetSectC k) s f rest left words shorter
tested l label (LgSetSectD k) s f rest left met at flat words shorter = nothing_made l label (LgSetSectD k) s f rest left words shorter

set_falls_c : (l : Labels) (index k n : ℕ) (f : Fixup) (rest : List Fixup) (s : State) → SetsHold l (length (f ∷ rest)) → AtFixup f index s → 1 ≤ n → label_at l (f ∷ rest) s ≤ n + extension_at l (f ∷ rest) (record s { c = k })
set_falls_c l index k n f rest s sets at some =
    let low = sets.c_line (class_of l.registers s.c) (class_of l.registers k) (class_of l.registers s.d) (class_of-below l s.c) (class_of-below l k) (class_of-below l s.d) in
    let here = extension-here l f rest s.position (class_of l.registers k) (class_of l.registers s.d) at.position in
    omega (arith, low, here)

set_falls_d : (l : Labels) (index k n : ℕ) (f : Fixup) (rest : List Fixup) (s : State) → SetsHold l (length (f ∷ rest)) → AtFixup f index s → 1 ≤ n → label_at l (f ∷ rest) s ≤ n + extension_at l (f ∷ rest) (record s { d = k })
set_falls_d l index k n f rest s sets at some =
    let low = sets.d_line (class_of l.registers s.c) (class_of l.registers s.d) (class_of l.registers k) (class_of-below l s.c) (class_of-below l s.d) (class_of-below l k) in
    let here = extension-here l f rest s.position (class_of l.registers s.c) (class_of l.registers k) at.position in
    omega (arith, low, here)

-- a label is at most the value after each instruction that sets a register
pub sets_falls : (l : Labels) (index : ℕ) (f : Fixup) (rest : List Fixup) (x : Instr) (s : State) → SetsHold l (length (f ∷ rest)) → AtFixup f index s → sets_register x ≡ true → label_at l (f ∷ rest) s ≤ instr_length x + extension_at l (f ∷ rest) (next_state x s)
sets_falls l index f rest (SmSetSectC k) s sets at is = set_falls_c l index k 1 f rest s sets at (omega arith)
sets_falls l index f rest (SmSetSectD k) s sets at is = set_falls_d l index k 1 f rest s sets at (omega arith)
sets_falls l index f rest (LgSetSectC k) s sets at is = set_falls_c l index k 2 f rest s sets at (omega arith)
sets_falls l index f rest (LgSetSectD k) s sets at is = set_falls_d l index k 2 f rest s sets at (omega arith)
sets_falls l index f rest _ s sets at is = absurd (cc)

-- labels are feasible if the tests hold
pub feasible-tested : (l : Labels) (index : ℕ) (f : Fixup) (rest : List Fixup) → TestsHold l index f rest → FeasibleAt l index f rest
feasible-tested l index f rest tests = record {
  sets = λ x s at flat is. sets_falls l index f rest x s tests.sets at is;
  adds = λ x s left at flat delivers shorter.
      let met = tests.adds (class_of l.registers s.c) (class_of l.registers s.d) (class_of-below l s.c) (class_of-below l s.d) in
      tested l (label_at l (f ∷ rest) s) x s f rest left (subst (λ (i : ℕ). adds_test l i f rest (class_of l.registers s.c) (class_of l.registers s.d) ≡ true) (sym at.index_is) met) at.position flat delivers.is shorter;
}
