-- Words that come in the order of their sections and offsets come once.
use Rattle.std.proofs.Common.{◌≡◌, ◌∙◌, ℕ, ◌+◌, ◌<◌, ◌≤◌, List, [], ◌∷◌, Bool, true, false, ◌==◌, ◌&&◌, ◌||◌, cond, Option, None, Some, refl, subst, sym, ◌⊎◌, inl, inr, arith}
use Rattle.std.specs.Prelude.{nat_lt}
use Rattle.std.specs.Option.{option_to_list}
use Rattle.std.proofs.lemmas.Bool.{and_parts, ltb-false}
use Rattle.std.proofs.lemmas.Bool.Decides.{eqb_tells}
use Rattle.pef_reloc.specs.declared.fixup.Fixup.{Fixup}
use Rattle.pef_words.specs.Findings.{all_among}
use Rattle.pef_inspect.specs.Kept.Rising.{AreBefore, Follow, rising_end}
use Rattle.pef_inspect.specs.Twice.{is_among, words_in}
use Rattle.pef_inspect.proofs.Seeing.{among_last, among_middle}
use Rattle.pef_inspect.proofs.Within.{nil-right}

-- no words
follow_none : (before : List (ℕ × ℕ)) (place : ℕ × ℕ) → AreBefore before place → Follow before [] place
follow_none before place are = record { once = refl; all = subst (λ words. AreBefore words place) (nil-right before) are }

-- a word at or after a place is none of those before it
apart : (before : List (ℕ × ℕ)) (section from offset : ℕ) → AreBefore before (section, from) → from ≤ offset → is_among before (section, offset) ≡ false
apart before section from offset are high = by (is_among before (section, offset)) refl
  where
    by : (b : Bool) → is_among before (section, offset) ≡ b → b ≡ false
    by false is = refl
    by true is = elim (are (section, offset) is) [
      | inl low ↦ absurd (omega (arith, low))
      | inr same ↦ (let low = same.1 in absurd (omega (arith, low, high)))
    ]

-- .. and with it those before are before the next offset
before_next : (before : List (ℕ × ℕ)) (section from offset : ℕ) → AreBefore before (section, from) → from ≤ offset → AreBefore ((section, offset) ∷ before) (section, offset + 1)
before_next before section from offset are high q is = by (q.0 == section && q.1 == offset) refl is
  where
    by : (b : Bool) → (q.0 == section && q.1 == offset) ≡ b → (b || is_among before q) ≡ true → (q.0 < section) ⊎ ((q.0 ≡ section) × (q.1 < offset + 1))
    by true same is =
        let equal = and_parts (q.0 == section) (q.1 == offset) same in
        elim (eqb_tells q.0 section) [
          | inl first ↦ elim (eqb_tells q.1 offset) [
            | inl second ↦ (let at = second.1 in inr (first.1, omega (arith, at)))
            | inr other ↦ (let is-not = other.0 in let is-so = equal.1 in absurd (cc (is-not, is-so)))
          ]
          | inr other ↦ (let is-not = other.0 in let is-so = equal.0 in absurd (cc (is-not, is-so)))
        ]
    by false other is = elim (are q is) [
      | inl low ↦ inl low
      | inr same ↦ (let low = same.1 in inr (same.0, omega (arith, low, high)))
    ]

-- words whose offsets rise
pub follow_rising : (section : ℕ) (fixups : List Fixup) (before : List (ℕ × ℕ)) (from end : ℕ) → AreBefore before (section, from) → rising_end from fixups ≡ Some end → Follow before (words_in section fixups) (section, end)
follow_rising section [] before from end are is = subst (λ e. Follow before [] (section, e)) (cc is) (follow_none before (section, from) are)
follow_rising section (f ∷ fixups) before from end are is = by (nat_lt f.offset from) refl is (follow_rising section fixups ((section, f.offset) ∷ before) (f.offset + 1) end)
  where
    by : (b : Bool) → nat_lt f.offset from ≡ b → cond b None (rising_end (f.offset + 1) fixups) ≡ Some end
        → (AreBefore ((section, f.offset) ∷ before) (section, f.offset + 1) → rising_end (f.offset + 1) fixups ≡ Some end → Follow ((section, f.offset) ∷ before) (words_in section fixups) (section, end))
        → Follow before (words_in section (f ∷ fixups)) (section, end)
    by true low is follow = absurd (cc is)
    by false high is follow =
        let at = ltb-false f.offset from high in
        let rest = follow (before_next before section from f.offset are at) is in
        record {
          once = rw (apart before section from f.offset are at) rest.once;
          all = λ q among. rest.all q (sym (among_middle before (words_in section fixups) (section, f.offset) q) ∙ among);
        }

-- if no program up to one has a note, and it has none, those up to the next have none
pub none-next : {F : Type 0} (notes : ℕ → Option F) (k : ℕ) → all_among (λ i. option_to_list (notes i)) 0 k ≡ [] → notes k ≡ None → all_among (λ i. option_to_list (notes i)) 0 (k + 1) ≡ []
none-next notes k none here = sym (among_last (λ i. option_to_list (notes i)) k) ∙ rw (none, here) refl
