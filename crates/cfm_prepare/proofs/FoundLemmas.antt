-- New fragments, found by their positions among those that are present.
use Rattle.std.proofs.Common.{◌≡◌, ◌==◌, ℕ, zero, suc, ◌<◌, Bool, true, false, List, [], ◌∷◌, ◌++◌, cond, get_or, length, take, refl, sym, ap, ap₂, subst, ◌∙◌, inl, inr, arith}
use Rattle.std.proofs.lemmas.Bool.Decides.{eqb_tells}
use Rattle.cfm_memory.specs.Extents.{Rule}
use Rattle.cfm_memory.specs.Instances.{Layout}
use Rattle.cfm_memory.specs.declared.place.Place.{Place}
use Rattle.cfm_store.specs.Stores.{Pair}
use Rattle.cfm_prepare.specs.Lists.{has, IsOnce}
use Rattle.cfm_prepare.specs.Fragments.{Present, is_present, new_among, places_of, positions, present_at}
use Rattle.cfm_prepare.specs.Kept.Ready.{AreAbsent, HavePlaced, found_in}
use Rattle.cfm_prepare.proofs.ListLemmas.{has-first, has-get, has-later}
use Rattle.cfm_prepare.proofs.SlotLemmas.{places-append, present-append}

-- a position is found if a fragment has it
pub present-has : (fs : List Present) (p : ℕ) → is_present fs p ≡ has (positions fs) p
present-has [] p = refl
present-has (f ∷ fs) p = ap (λ b. cond (f.position == p) true b) (present-has fs p)

-- a list without repeats has none of its numbers before
apart-of : (q p : ℕ) (qs : List ℕ) → has qs q ≡ false → has qs p ≡ true → (q == p) ≡ false
apart-of q p qs once there = elim (eqb_tells q p) [
  | inl same ↦ (let wrong : true ≡ false = sym there ∙ ap (has qs) (sym same.1) ∙ once in absurd (cc))
  | inr other ↦ other.0
]

once-before : (ps : List ℕ) (i : ℕ) → IsOnce ps → i < length ps → has (take i ps) (get_or ps i 0) ≡ false
once-before [] i once under = absurd (omega (arith, under))
once-before (q ∷ qs) zero once under = refl
once-before (q ∷ qs) (suc i) once under =
    let low : i < length qs = omega (arith, under) in
    ap₂ (λ a b. cond a true b) (apart-of q (get_or qs i 0) qs once.0 (has-get qs i low)) (once-before qs i once.1 low)

-- a fragment that is placed next doesn't exist yet
pub absent-next : {rule : Rule} (pairs : List Pair) (m after : Layout) (there now : List Present) (new : List ℕ) (i : ℕ) → AreAbsent there new → HavePlaced rule pairs m there (take i new) now after → i < length new → is_present now (get_or new i 0) ≡ false
absent-next pairs m after there now new i absent have under =
    let q = get_or new i 0 in
    let before : is_present have.fresh q ≡ false = present-has have.fresh q ∙ ap (λ ps. has ps q) have.are ∙ once-before new i absent.once under in
    ap (λ fs. is_present fs q) have.behind ∙ present-append there have.fresh q ∙ ap₂ (λ a b. cond a true b) (absent.none q (has-get new i under)) before

-- fragments that are found have the places that they have
found-same : (all other : List Present) (ps : List ℕ) → ((p : ℕ) → has ps p ≡ true → places_of all p ≡ places_of other p) → found_in all ps ≡ found_in other ps
found-same all other [] same = refl
found-same all other (q ∷ qs) same =
    ap₂ (λ (places : List Place) (fs : List Present). (record { position = q; places = places }) ∷ fs) (same q (has-first q qs)) (found-same all other qs (λ p there. same p (has-later q qs p there)))

found-own : (fs : List Present) → IsOnce (positions fs) → found_in fs (positions fs) ≡ fs
found-own [] once = refl
found-own (f ∷ fs) once =
    ap₂ (λ (places : List Place) (gs : List Present). (record { position = f.position; places = places }) ∷ gs) (first f fs)
    (found-same (f ∷ fs) fs (positions fs) (λ p there. ap (λ b. cond b f.places (places_of fs p)) (apart-of f.position p (positions fs) once.0 there)) ∙ found-own fs once.1)
  where
    first : (f : Present) (fs : List Present) → places_of (f ∷ fs) f.position ≡ f.places
    first f fs = elim (eqb_tells f.position f.position) [ inl same ↦ rw same.0 refl | inr other ↦ absurd (other.1 refl) ]

-- new fragments are those that are found by their positions
pub found-fresh : {rule : Rule} (pairs : List Pair) (m after : Layout) (there now : List Present) (new : List ℕ) → AreAbsent there new → (have : HavePlaced rule pairs m there new now after) → found_in now new ≡ have.fresh
found-fresh pairs m after there now new absent have =
    let fresh = have.fresh in
    let once : IsOnce (positions fresh) = subst IsOnce (sym have.are) absent.once in
    let same = found-same (there ++ fresh) fresh new (λ p in_new. places-append there fresh p ∙ ap (λ b. cond b (places_of there p) (places_of fresh p)) (absent.none p in_new)) in
    ap (λ fs. found_in fs new) have.behind ∙ same ∙ ap (found_in fresh) (sym have.are) ∙ found-own fresh once

pub length-found : (all : List Present) (ps : List ℕ) → length (found_in all ps) ≡ length ps
length-found all [] = refl
length-found all (p ∷ ps) = ap suc (length-found all ps)

-- one of them
found-at : (all : List Present) (ps : List ℕ) (i : ℕ) (places : List Place) → i < length ps → places ≡ places_of all (get_or ps i 0) → (record { position = get_or ps i 0; places = places }) ≡ present_at (found_in all ps) i
found-at all [] i places under is = absurd (omega (arith, under))
found-at all (p ∷ ps) zero places under is = ap (λ (qs : List Place). record { position = p; places = qs }) is
found-at all (p ∷ ps) (suc i) places under is = found-at all ps i places (omega (arith, under)) is

pub found-here : (all : List Present) (ps : List ℕ) (i : ℕ) (places : List Place) → i < length ps → places ≡ places_of all (get_or ps i 0)
    → (i < length (found_in all ps)) × ((record { position = get_or ps i 0; places = places }) ≡ present_at (found_in all ps) i)
found-here all ps i places under is = (subst (λ n. i < n) (sym (length-found all ps)) under, found-at all ps i places under is)

-- the new positions of a closure are listed once, and absent
pub new-has : (fs : List Present) (ps : List ℕ) (p : ℕ) → has (new_among fs ps) p ≡ true → has ps p ≡ true
new-has fs [] p there = there
new-has fs (q ∷ qs) p there = go (is_present fs q) (q == p) there (new-has fs qs p)
  where
    go : (a b : Bool) → has (cond a (new_among fs qs) (q ∷ new_among fs qs)) p ≡ true → (has (new_among fs qs) p ≡ true → has qs p ≡ true) → cond (q == p) true (has qs p) ≡ true
    go a b there more = elim (eqb_tells q p) [
      | inl same ↦ rw same.0 refl
      | inr other ↦ rw other.0 (more (rest a there other.0))
    ]
      where
        rest : (a : Bool) → has (cond a (new_among fs qs) (q ∷ new_among fs qs)) p ≡ true → (q == p) ≡ false → has (new_among fs qs) p ≡ true
        rest true there apart = there
        rest false there apart = ap (λ b. cond b true (has (new_among fs qs) p)) (sym apart) ∙ there

-- a number that the first elements have is in the list
pub take-has : (n : ℕ) (ps : List ℕ) (p : ℕ) → has (take n ps) p ≡ true → has ps p ≡ true
take-has zero ps p there = absurd (cc)
take-has (suc n) [] p there = there
take-has (suc n) (q ∷ qs) p there = go (q == p) (take-has n qs p) there
  where
    go : (b : Bool) → (has (take n qs) p ≡ true → has qs p ≡ true) → cond b true (has (take n qs) p) ≡ true → cond b true (has qs p) ≡ true
    go true more there = refl
    go false more there = more there

-- so the new positions of a closure are absent
none-new : (fs : List Present) (ps : List ℕ) (p : ℕ) → has (new_among fs ps) p ≡ true → is_present fs p ≡ false
none-new fs [] p there = absurd (cc)
none-new fs (q ∷ qs) p there = go (is_present fs q) refl there (λ here. none-new fs qs p here)
  where
    go : (a : Bool) → is_present fs q ≡ a → has (cond a (new_among fs qs) (q ∷ new_among fs qs)) p ≡ true → (has (new_among fs qs) p ≡ true → is_present fs p ≡ false) → is_present fs p ≡ false
    go true is there more = more there
    go false is there more = elim (eqb_tells q p) [
      | inl same ↦ ap (is_present fs) (sym same.1) ∙ is
      | inr other ↦ more (ap (λ b. cond b true (has (new_among fs qs) p)) (sym other.0) ∙ there)
    ]

not-has : (b : Bool) → (b ≡ true → true ≡ false) → b ≡ false
not-has true wrong = wrong refl
not-has false wrong = refl

once-new : (fs : List Present) (ps : List ℕ) → IsOnce ps → IsOnce (new_among fs ps)
once-new fs [] once = tt
once-new fs (q ∷ qs) once =
    go (is_present fs q) (once-new fs qs once.1) (not-has (has (new_among fs qs) q) (λ there. sym (new-has fs qs q there) ∙ once.0))
  where
    go : (a : Bool) → IsOnce (new_among fs qs) → has (new_among fs qs) q ≡ false → IsOnce (cond a (new_among fs qs) (q ∷ new_among fs qs))
    go true rest first = rest
    go false rest first = (first, rest)

pub absent-new : (fs : List Present) (order : List ℕ) → IsOnce order → AreAbsent fs (new_among fs order)
absent-new fs order once = record { once = once-new fs order once; none = λ p there. none-new fs order p there }
