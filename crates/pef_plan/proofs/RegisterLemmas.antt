-- The sections that fixups use, one after the other.
use Rattle.std.proofs.Common.{◌≡◌, ℕ, zero, suc, ◌+◌, ◌<◌, ◌≤◌, inl, inr, Bool, true, false, ◌==◌, ◌||◌, nat_lt, List, [], ◌∷◌, ◌++◌, refl, ap, sym, ◌∙◌, arith, eq-eqb}
use Rattle.std.specs.Prelude.{replicate, slice_index_or}
use Rattle.std.proofs.lemmas.Bool.{and_from, and_parts, eqb-true, false_from_ne_true, lt-ltb, ltb-false, ltb-true, ne_eqb, or_right}
use Rattle.std.proofs.lemmas.Bool.Decides.{eqb_tells}
use Rattle.pef_reloc.specs.declared.fixup.Fixup.{Fixup}
use Rattle.pef_reloc.specs.declared.fixup.Base.{Base}
use Rattle.pef_reloc.specs.Deliveries.{is_section, uses_section}
use Rattle.pef_reloc.specs.Fixups.{fixups_fit}
use Rattle.pef_reloc.specs.Limits.{most_sections}
use Rattle.pef_reloc.proofs.Laws.{used_section-below}
use Rattle.pef_labels.specs.Rising.{above_all}
use Rattle.pef_cert.specs.Valid.{RegistersOf, is_among, rises}
use Rattle.pef_words.proofs.Laws.Tests.{or_assoc, or_either}

-- the sections below one that fixups use, rising
pub record UsedBelow (fixups : List Fixup) (most : ℕ) (registers : List ℕ) : Type 0 where
  pub rising : rises registers ≡ true
  pub below : (k : ℕ) → is_among registers k ≡ true → k < most
  pub used : (k : ℕ) → k < most → is_among registers k ≡ uses_section fixups k

pub or_false : (a : Bool) → (a || false) ≡ a
or_false true = refl
or_false false = refl

-- no section is marked at first
pub unmarked : (n k : ℕ) → slice_index_or (replicate n false) k false ≡ false
unmarked zero k = refl
unmarked (suc n) zero = refl
unmarked (suc n) (suc k) = unmarked n k

-- the sections marked so far, with those of the fixups left
pub marked-more : (used new : List Bool) (base : Base) (rest : List Fixup) (all : Bool) (k : ℕ) → slice_index_or new k false ≡ (slice_index_or used k false || is_section k base) → (slice_index_or used k false || (is_section k base || uses_section rest k)) ≡ all → (slice_index_or new k false || uses_section rest k) ≡ all
marked-more used new base rest all k next before =
    ap (λ b. b || uses_section rest k) next ∙ sym (or_assoc (slice_index_or used k false) (is_section k base) (uses_section rest k)) ∙ before

above-append : (low : ℕ) (rs : List ℕ) (k : ℕ) → above_all low rs ≡ true → low < k → ((j : ℕ) → is_among rs j ≡ true → j < k) → above_all low (rs ++ k ∷ []) ≡ true
above-append low [] k up under below = and_from (nat_lt low k) true (lt-ltb low k under) refl
above-append low (r ∷ rs) k up under below =
    let both = and_parts (nat_lt low r) (above_all r rs) up in
    and_from (nat_lt low r) (above_all r (rs ++ k ∷ [])) both.0
    (above-append r rs k both.1 (below r (rw (eq-eqb r r refl) refl)) (λ j among. below j (or_right (r == j) (is_among rs j) among)))

rises-append : (rs : List ℕ) (k : ℕ) → rises rs ≡ true → ((j : ℕ) → is_among rs j ≡ true → j < k) → rises (rs ++ k ∷ []) ≡ true
rises-append [] k up below = refl
rises-append (r ∷ rs) k up below = above-append r rs k up (below r (rw (eq-eqb r r refl) refl)) (λ j among. below j (or_right (r == j) (is_among rs j) among))

among-append : (rs : List ℕ) (k j : ℕ) → is_among (rs ++ k ∷ []) j ≡ (is_among rs j || k == j)
among-append [] k j = or_false (k == j)
among-append (r ∷ rs) k j = ap (λ b. r == j || b) (among-append rs k j) ∙ or_assoc (r == j) (is_among rs j) (k == j)

-- the empty list, at the start
pub used_none : (fixups : List Fixup) → UsedBelow fixups 0 []
used_none fixups = record { rising = refl; below = λ k among. absurd (cc); used = λ k under. absurd (omega (arith, under)) }

-- a section that isn't used, and one that is
pub used_passed : (fixups : List Fixup) (most : ℕ) (rs : List ℕ) → UsedBelow fixups most rs → false ≡ uses_section fixups most → UsedBelow fixups (most + 1) rs
used_passed fixups most rs u unused = record {
  rising = u.rising;
  below = λ k among. let low = u.below k among in omega (arith, low);
  used = λ k under.
      elim (eqb_tells k most) [
        | inl same ↦ rw same.1 (false_from_ne_true (is_among rs most) (λ among. let low = u.below most among in omega (arith, low)) ∙ unused)
        | inr other ↦ (let apart = other.1 in u.used k (omega (arith, under)))
      ];
}

pub used_more : (fixups : List Fixup) (most : ℕ) (rs : List ℕ) → UsedBelow fixups most rs → true ≡ uses_section fixups most → UsedBelow fixups (most + 1) (rs ++ most ∷ [])
used_more fixups most rs u used = record {
  rising = rises-append rs most u.rising u.below;
  below = λ k among.
      or_either (is_among rs k) (most == k) (k < most + 1)
      (λ before. let low = u.below k before in omega (arith, low))
      (λ same. let e = eqb-true most k same in omega (arith, e))
      (sym (among-append rs most k) ∙ among);
  used = λ k under.
      among-append rs most k ∙
      (elim (eqb_tells k most) [
        | inl same ↦ rw (same.1, eq-eqb most most refl) (or_right (is_among rs most) true refl ∙ used)
        | inr other ↦
            (let apart = other.1 in
            rw (ne_eqb most k (λ e. other.1 (sym e))) (or_false (is_among rs k) ∙ u.used k (omega (arith, under))))
      ]);
}

-- all sections
pub used_all : (fixups : List Fixup) (most : ℕ) (rs : List ℕ) → fixups_fit fixups ≡ true → most_sections ≤ most → UsedBelow fixups most rs → RegistersOf fixups rs
used_all fixups most rs fit enough u = record {
  rising = u.rising;
  used = λ k. go k (nat_lt k most) refl;
}
  where
    past : (k : ℕ) → most ≤ k → is_among rs k ≡ uses_section fixups k
    past k over =
        false_from_ne_true (is_among rs k) (λ among. let low = u.below k among in omega (arith, low))
        ∙ sym (false_from_ne_true (uses_section fixups k) (λ used. let low = used_section-below fixups k fit used in omega (arith, low)))

    go : (k : ℕ) (b : Bool) → nat_lt k most ≡ b → is_among rs k ≡ uses_section fixups k
    go k true e = u.used k (ltb-true k most e)
    go k false e = past k (ltb-false k most e)
