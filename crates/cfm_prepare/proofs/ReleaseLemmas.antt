-- Fragments that are released one by one, in any order.
use Rattle.std.proofs.Common.{◌≡◌, ◌+◌, ◌<◌, ◌≤◌, ℕ, Bool, true, false, List, [], ◌∷◌, ◌++◌, cond, drop, filter, get_or, length, not, refl, sym, ap, ap₂, subst, ◌∙◌, inl, inr}
use Rattle.std.proofs.lemmas.Bool.Decides.{eqb_tells}
use Rattle.std.proofs.lemmas.List.{at_drop_more, drop_all}
use Rattle.cfm_memory.specs.Extents.{given_back}
use Rattle.cfm_memory.specs.Instances.{Layout}
use Rattle.cfm_prepare.specs.Lists.{has}
use Rattle.cfm_prepare.specs.Fragments.{IsGivenBack, Present, all_given_back, is_present}
use Rattle.cfm_prepare.specs.Kept.Ready.{others_of, these_of}
use Rattle.cfm_prepare.proofs.GroupLemmas.{given-swap}

-- the fragments whose positions are kept, and the others
abbrev pub kept_by : (ℕ → Bool) → List Present → List Present
kept_by keep fs = filter (λ (f : Present). keep f.position) fs

abbrev pub gone_by : (ℕ → Bool) → List Present → List Present
gone_by keep fs = filter (λ (f : Present). not (keep f.position)) fs

-- one that isn't kept makes no difference to the kept
kept-without : (keep : ℕ → Bool) (xs : List Present) (f : Present) (ys : List Present) → keep f.position ≡ false → kept_by keep (xs ++ f ∷ ys) ≡ kept_by keep (xs ++ ys)
kept-without keep [] f ys out = ap (λ b. cond b (f ∷ kept_by keep ys) (kept_by keep ys)) out
kept-without keep (x ∷ xs) f ys out = ap (λ zs. cond (keep x.position) (x ∷ zs) zs) (kept-without keep xs f ys out)

-- and may be released first of the others
gone-first : (keep : ℕ → Bool) (m : Layout) (xs : List Present) (f : Present) (ys : List Present) → keep f.position ≡ false
    → all_given_back m (gone_by keep (xs ++ f ∷ ys)) ≡ all_given_back (given_back m f.places) (gone_by keep (xs ++ ys))
gone-first keep m [] f ys out = ap (λ b. all_given_back m (cond (not b) (f ∷ gone_by keep ys) (gone_by keep ys))) out
gone-first keep m (x ∷ xs) f ys out = go (keep x.position) (gone-first keep m xs f ys out) (gone-first keep (given_back m x.places) xs f ys out)
  where
    go : (b : Bool) → all_given_back m (gone_by keep (xs ++ f ∷ ys)) ≡ all_given_back (given_back m f.places) (gone_by keep (xs ++ ys))
        → all_given_back (given_back m x.places) (gone_by keep (xs ++ f ∷ ys)) ≡ all_given_back (given_back (given_back m x.places) f.places) (gone_by keep (xs ++ ys))
        → all_given_back m (cond (not b) (x ∷ gone_by keep (xs ++ f ∷ ys)) (gone_by keep (xs ++ f ∷ ys)))
        ≡ all_given_back (given_back m f.places) (cond (not b) (x ∷ gone_by keep (xs ++ ys)) (gone_by keep (xs ++ ys)))
    go true here later = here
    go false here later = later ∙ ap (λ (k : Layout). all_given_back k (gone_by keep (xs ++ ys))) (given-swap m x.places f.places)

-- one fragment more is present
present-more : (xs : List Present) (f : Present) (ys : List Present) (p : ℕ) → is_present (xs ++ ys) p ≡ true → is_present (xs ++ f ∷ ys) p ≡ true
present-more [] f ys p there = elim (eqb_tells f.position p) [ inl same ↦ rw same.0 refl | inr other ↦ rw other.0 there ]
present-more (x ∷ xs) f ys p there = elim (eqb_tells x.position p) [
  | inl same ↦ rw same.0 refl
  | inr other ↦ (let rest : is_present (xs ++ ys) p ≡ true = rw other.0 at there in rw other.0 (present-more xs f ys p rest))
]

-- if another number is first in a list, the others have it
has-after : (q : ℕ) (qs : List ℕ) (p : ℕ) → (q ≡ p → true ≡ false) → has (q ∷ qs) p ≡ true → has qs p ≡ true
has-after q qs p apart there = elim (eqb_tells q p) [
  | inl same ↦ (let wrong : true ≡ false = apart same.1 in absurd (cc))
  | inr other ↦ ap (λ b. cond b true (has qs p)) (sym other.0) ∙ there
]

-- the fragments that aren't kept are released, except for some positions that are left
pub record AreGiven (keep : ℕ → Bool) (all : List Present) (before : Layout) (now : List Present) (m : Layout) (rest : List ℕ) : Type 0 where
  pub kept : kept_by keep now ≡ kept_by keep all
  pub memory : all_given_back m (gone_by keep now) ≡ all_given_back before (gone_by keep all)
  pub left : (p : ℕ) → keep p ≡ false → is_present now p ≡ true → has rest p ≡ true

-- a position that is kept is passed
pub given-kept : (keep : ℕ → Bool) (all now : List Present) (before m : Layout) (q : ℕ) (qs : List ℕ) → keep q ≡ true → AreGiven keep all before now m (q ∷ qs) → AreGiven keep all before now m qs
given-kept keep all now before m q qs stays s = record {
  kept = s.kept;
  memory = s.memory;
  left = λ p out there. has-after q qs p (λ e. sym stays ∙ ap keep e ∙ out) (s.left p out there);
}

-- any other is released, or wasn't there
pub given-gone : (keep : ℕ → Bool) (all fs now : List Present) (before m after : Layout) (q : ℕ) (qs : List ℕ) → keep q ≡ false → IsGivenBack m fs q after now
    → AreGiven keep all before fs m (q ∷ qs) → AreGiven keep all before now after qs
given-gone keep all fs now before m after q qs out (inl absent) s =
    let P : Layout → List Present → Type 0 = λ k xs. all_given_back k (gone_by keep xs) ≡ all_given_back before (gone_by keep all) in
    record {
      kept = ap (kept_by keep) absent.1 ∙ s.kept;
      memory = ap₂ (λ k xs. all_given_back k (gone_by keep xs)) absent.2 absent.1 ∙ s.memory;
      left = λ p free there.
          let before_there : is_present fs p ≡ true = ap (λ xs. is_present xs p) (sym absent.1) ∙ there in
          has-after q qs p (λ e. sym before_there ∙ ap (is_present fs) (sym e) ∙ absent.0) (s.left p free before_there);
    }
given-gone keep all fs now before m after q qs out (inr (places, taken, after_is)) s =
    let f : Present = record { position = q; places = places } in
    record {
      kept = ap (kept_by keep) taken.is ∙ sym (kept-without keep taken.front f taken.back out) ∙ ap (kept_by keep) (sym taken.was) ∙ s.kept;
      memory = ap₂ (λ k xs. all_given_back k (gone_by keep xs)) after_is taken.is ∙ sym (gone-first keep m taken.front f taken.back out) ∙ ap (λ xs. all_given_back m (gone_by keep xs)) (sym taken.was) ∙ s.memory;
      left = λ p free there.
          let more : is_present (taken.front ++ f ∷ taken.back) p ≡ true = present-more taken.front f taken.back p (ap (λ xs. is_present xs p) (sym taken.is) ∙ there) in
          let before_there : is_present fs p ≡ true = ap (λ xs. is_present xs p) taken.was ∙ more in
          has-after q qs p (λ e. sym there ∙ ap (is_present now) (sym e) ∙ taken.gone) (s.left p free before_there);
    }

-- if none is left, all that exist are kept
pub record AreAllKept (keep : ℕ → Bool) (fs : List Present) : Type 0 where
  pub kept : kept_by keep fs ≡ fs
  pub gone : gone_by keep fs ≡ []

present-first : (f : Present) (fs : List Present) → is_present (f ∷ fs) f.position ≡ true
present-first f fs = elim (eqb_tells f.position f.position) [ inl same ↦ rw same.0 refl | inr other ↦ absurd (other.1 refl) ]

present-later : (f : Present) (fs : List Present) (p : ℕ) → is_present fs p ≡ true → is_present (f ∷ fs) p ≡ true
present-later f fs p there = present-more [] f fs p there

all-kept : (keep : ℕ → Bool) (fs : List Present) → ((p : ℕ) → is_present fs p ≡ true → keep p ≡ true) → AreAllKept keep fs
all-kept keep [] each = record { kept = refl; gone = refl }
all-kept keep (f ∷ fs) each =
    let here : keep f.position ≡ true = each f.position (present-first f fs) in
    let rest = all-kept keep fs (λ p there. each p (present-later f fs p there)) in
    record {
      kept = ap₂ (λ b ys. cond b (f ∷ ys) ys) here rest.kept;
      gone = ap₂ (λ b ys. cond (not b) (f ∷ ys) ys) here rest.gone;
    }

kept-or : (b : Bool) → (b ≡ false → false ≡ true) → b ≡ true
kept-or true wrong = refl
kept-or false wrong = wrong refl

pub given-end : (keep : ℕ → Bool) (all now : List Present) (before m : Layout) → AreGiven keep all before now m [] → (now ≡ kept_by keep all) × (m ≡ all_given_back before (gone_by keep all))
given-end keep all now before m s =
    let k = all-kept keep now (λ p there. kept-or (keep p) (λ out. s.left p out there)) in
    (sym k.kept ∙ s.kept, ap (all_given_back m) (sym k.gone) ∙ s.memory)

-- the fragments of some positions, and the others
pub others-kept : (ps : List ℕ) (fs : List Present) → kept_by (λ p. not (has ps p)) fs ≡ others_of ps fs
others-kept ps [] = refl
others-kept ps (f ∷ fs) = go (has ps f.position) (others-kept ps fs)
  where
    go : (b : Bool) → kept_by (λ p. not (has ps p)) fs ≡ others_of ps fs → cond (not b) (f ∷ kept_by (λ p. not (has ps p)) fs) (kept_by (λ p. not (has ps p)) fs) ≡ cond b (others_of ps fs) (f ∷ others_of ps fs)
    go true same = same
    go false same = ap (λ ys. f ∷ ys) same

pub these-gone : (ps : List ℕ) (fs : List Present) → gone_by (λ p. not (has ps p)) fs ≡ these_of ps fs
these-gone ps [] = refl
these-gone ps (f ∷ fs) = go (has ps f.position) (these-gone ps fs)
  where
    go : (b : Bool) → gone_by (λ p. not (has ps p)) fs ≡ these_of ps fs
        → cond (not (not b)) (f ∷ gone_by (λ p. not (has ps p)) fs) (gone_by (λ p. not (has ps p)) fs) ≡ cond b (f ∷ these_of ps fs) (these_of ps fs)
    go true same = ap (λ ys. f ∷ ys) same
    go false same = same

-- none of the fragments with other positions is released, and all with these are
pub others-all : (ps : List ℕ) (xs ys : List Present) → ((p : ℕ) → has ps p ≡ true → is_present xs p ≡ false) → ((p : ℕ) → is_present ys p ≡ true → has ps p ≡ true) → (others_of ps (xs ++ ys) ≡ xs) × (these_of ps (xs ++ ys) ≡ ys)
others-all ps [] [] out are = (refl, refl)
others-all ps [] (y ∷ ys) out are =
    let here : has ps y.position ≡ true = are y.position (present-first y ys) in
    let rest = others-all ps [] ys out (λ p there. are p (present-later y ys p there)) in
    (ap₂ (λ b zs. cond b zs (y ∷ zs)) here rest.0, ap₂ (λ b zs. cond b (y ∷ zs) zs) here rest.1)
others-all ps (x ∷ xs) ys out are =
    let here : has ps x.position ≡ false = not-has (has ps x.position) (λ there. sym (present-first x xs) ∙ out x.position there) in
    let rest = others-all ps xs ys (λ p there. not-later p (out p there)) are in
    (ap₂ (λ b zs. cond b zs (x ∷ zs)) here rest.0, ap₂ (λ b zs. cond b (x ∷ zs) zs) here rest.1)
  where
    not-has : (b : Bool) → (b ≡ true → true ≡ false) → b ≡ false
    not-has true wrong = wrong refl
    not-has false wrong = refl

    not-later : (p : ℕ) → is_present (x ∷ xs) p ≡ false → is_present xs p ≡ false
    not-later p none = elim (eqb_tells x.position p) [
      | inl same ↦ (let wrong : true ≡ false = rw same.0 at none in absurd (cc))
      | inr other ↦ rw other.0 at none
    ]

-- the first of the positions that are left
pub given-first : (keep : ℕ → Bool) (all now : List Present) (before m : Layout) (ps : List ℕ) (i : ℕ) → i < length ps → AreGiven keep all before now m (drop i ps) → AreGiven keep all before now m (get_or ps i 0 ∷ drop (i + 1) ps)
given-first keep all now before m ps i under s =
    let P : List ℕ → Type 0 = λ rest. AreGiven keep all before now m rest in
    subst P (at_drop_more (λ (ys : List ℕ). ys) ps i 0 under) s

pub given-past : (keep : ℕ → Bool) (all now : List Present) (before m : Layout) (ps : List ℕ) (i : ℕ) → length ps ≤ i → AreGiven keep all before now m (drop i ps) → (now ≡ kept_by keep all) × (m ≡ all_given_back before (gone_by keep all))
given-past keep all now before m ps i past s =
    let P : List ℕ → Type 0 = λ rest. AreGiven keep all before now m rest in
    given-end keep all now before m (subst P (drop_all i ps past) s)
