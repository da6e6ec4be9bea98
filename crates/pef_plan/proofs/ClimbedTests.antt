-- The greatest number up to which a test holds.
use Rattle.std.proofs.Common.{◌≡◌, ℕ, zero, suc, ◌+◌, ◌<◌, ◌≤◌, inl, inr, Bool, true, false, cond, ◌&&◌, ◌||◌, ◌==◌, nat_le, List, [], ◌∷◌, refl, ap, ◌∙◌, subst, arith}
use Rattle.std.proofs.lemmas.Bool.{and_from, and_left, le-leb, lt-leb}
use Rattle.std.proofs.lemmas.Bool.Decides.{eqb_tells}
use Rattle.pef_reloc.specs.declared.fixup.Base.{Base}
use Rattle.pef_reloc.specs.declared.fixup.Base.TheVariants.{Section, Import}
use Rattle.pef_reloc.specs.declared.fixup.Fixup.{Fixup}
use Rattle.pef_cert.specs.Labels.{Labels, class_of}
use Rattle.pef_cert.specs.Extension.{extension}
use Rattle.pef_cert.specs.LabelTests.{asked, base_test, import_cost, numbered_test, one_from, pair_test, pairs_test, row_test, second_test}
use Rattle.pef_cert.proofs.Laws.{any_cost, asked-met, import_tests-met, numbered_test-met, pairs_test-met, row_test-met, section_tests-met}

-- a test holds up to a number, and not for the next one
pub record Climbed (test : ℕ → Bool) (value : ℕ) : Type 0 where
  pub below : (n : ℕ) → n ≤ value → test n ≡ true
  pub next : test (suc value) ≡ false

-- from a number on, the last one before the test fails, if it fails within so many
pub climb : (ℕ → Bool) → ℕ → ℕ → ℕ
climb test zero at = at
climb test (suc more) at = cond (test (suc at)) (climb test more (suc at)) at

climb_step : (test : ℕ → Bool) (at later : ℕ) (b : Bool) → test (suc at) ≡ b → ((n : ℕ) → n ≤ at → test n ≡ true) → (((n : ℕ) → n ≤ suc at → test n ≡ true) → Climbed test later) → Climbed test (cond b later at)
climb_step test at later true is below climbs = climbs (λ n low.
    elim (eqb_tells n (suc at)) [
      | inl same ↦ ap test same.1 ∙ is
      | inr other ↦ (let apart = other.1 in below n (omega (arith, low, apart)))
    ])
climb_step test at later false is below climbs = record { below = below; next = is }

pub climbs : (test : ℕ → Bool) (more at : ℕ) → ((n : ℕ) → n ≤ at → test n ≡ true) → test (suc (at + more)) ≡ false → Climbed test (climb test more at)
unfolding climb
climbs test zero at below past = (let same : suc at ≡ suc (at + 0) = omega arith in record { below = below; next = ap test same ∙ past })
climbs test (suc more) at below past =
    let same : suc (suc at + more) ≡ suc (at + suc more) = omega arith in
    climb_step test at (climb test more (suc at)) (test (suc at)) refl below (λ others. climbs test more (suc at) others (ap test same ∙ past))

-- the tests of a fixup's label hold for 0
none_row : (l : Labels) (w : ℕ) (b : Base) (c d n p : ℕ) (fixups : List Fixup) → row_test l 0 w b c d n p fixups ≡ true
none_row l w b c d n p fixups = row_test-met l 0 w b c d n p fixups (λ m left under words. omega arith)

none_pair : (l : Labels) (k c d p : ℕ) (fixups : List Fixup) (b : Base) → pair_test l 0 k c d p fixups b ≡ true
none_pair l k c d p fixups (Section j) =
    let near = pairs_test l 0 8 (Section k) (Section j) c d 512 p fixups in
    let far = pairs_test l 0 12 (Section k) (Section j) c d 512 p fixups in
    asked-met (class_of l.registers j == d) (near && far) (λ is. and_from near far
    (pairs_test-met l 0 8 (Section k) (Section j) c d 512 p fixups (λ m left under words. omega arith))
    (pairs_test-met l 0 12 (Section k) (Section j) c d 512 p fixups (λ m left under words. omega arith)))
none_pair l k c d p fixups (Import j) = refl

none_second : (l : Labels) (k c d : ℕ) (f : Fixup) (rest : List Fixup) → second_test l 0 k c d f rest ≡ true
none_second l k c d f [] = refl
none_second l k c d f (g ∷ rest) = none_pair l k c d f.offset (f ∷ g ∷ rest) g.base

none_base : (l : Labels) (index : ℕ) (f : Fixup) (rest : List Fixup) (c d : ℕ) (b : Base) → base_test l 0 index f rest c d b ≡ true
none_base l index f rest c d (Section k) = section_tests-met l 0 index k f rest c d (record {
  single = le-leb 0 (1 + extension l rest (f.offset + 4) c d) (omega arith);
  words = λ is. none_row l 4 (Section k) c d 512 f.offset (f ∷ rest);
  spaced = λ is. none_row l 8 (Section k) c d 512 f.offset (f ∷ rest);
  second = λ is. none_second l k c d f rest;
})
none_base l index f rest c d (Import k) = import_tests-met l 0 index k f rest c d (record {
  single = omega arith;
  imports = λ is. numbered_test-met l 0 c d 512 f.offset k (f ∷ rest) (λ m left under words. omega arith);
})

-- and fail past the value of the fixup's own addition
past_base : (l : Labels) (v index : ℕ) (f : Fixup) (rest : List Fixup) (c d : ℕ) (b : Base) → 2 + extension l rest (f.offset + 4) c d < v → base_test l v index f rest c d b ≡ false
past_base l v index f rest c d (Section k) over =
    let class = class_of l.registers k in
    let single = one_from l v rest (f.offset + 4) c d in
    let words = asked (class == c || class == d) (row_test l v 4 (Section k) c d 512 f.offset (f ∷ rest)) in
    let apart = asked (class == d) (row_test l v 8 (Section k) c d 512 f.offset (f ∷ rest)) in
    let second = asked (class == c) (second_test l v k c d f rest) in
    and_left (single && words && apart) second (and_left (single && words) apart (and_left single words (lt-leb v (1 + extension l rest (f.offset + 4) c d) (omega (arith, over)))))
past_base l v index f rest c d (Import k) over =
    let cost = any_cost k in
    and_left (nat_le v (import_cost k + extension l rest (f.offset + 4) c d)) (asked (k == index) (numbered_test l v c d 512 f.offset k (f ∷ rest)))
    (lt-leb v (import_cost k + extension l rest (f.offset + 4) c d) (omega (arith, over, cost)))

-- the greatest number for which the tests of a fixup's label hold
pub direct_value : Labels → ℕ → Fixup → List Fixup → ℕ → ℕ → ℕ
direct_value l index f rest c d = climb (λ v. base_test l v index f rest c d f.base) (2 + extension l rest (f.offset + 4) c d) 0

pub direct-climbed : (l : Labels) (index : ℕ) (f : Fixup) (rest : List Fixup) (c d : ℕ) → Climbed (λ v. base_test l v index f rest c d f.base) (direct_value l index f rest c d)
unfolding direct_value
direct-climbed l index f rest c d =
    climbs (λ v. base_test l v index f rest c d f.base) (2 + extension l rest (f.offset + 4) c d) 0
    (λ n low. let none : 0 ≡ n = omega (arith, low) in subst (λ v. base_test l v index f rest c d f.base ≡ true) none (none_base l index f rest c d f.base))
    (past_base l (suc (0 + (2 + extension l rest (f.offset + 4) c d))) index f rest c d f.base (omega arith))
