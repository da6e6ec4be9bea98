-- Memory with new fragments, each section with bytes that are given.
use Rattle.std.proofs.Common.{◌≡◌, ◌≢◌, ℕ, zero, suc, ◌<◌, List, [], ◌∷◌, ◌++◌, length, refl, sym, ap, subst, ◌∙◌, arith}
use Rattle.cfm_memory.specs.Extents.{Rule, given_back, place_at, rule_after, with_filled}
use Rattle.cfm_memory.specs.Instances.{Layout, bytes_at}
use Rattle.cfm_memory.proofs.Laws.{SameShape, filled_elsewhere, filled_given_back, filled_shape, filled_stand, shape_self, stand_held}
use Rattle.cfm_store.specs.Stores.{Pair}
use Rattle.cfm_prepare.specs.Fragments.{Present, StandAll, all_given_back, extents_in, present_at}
use Rattle.cfm_prepare.specs.Placing.{AllPlacedBy}
use Rattle.cfm_prepare.specs.Kept.Begun.{HavePlacedWith, HaveSizes, all_filled, section_placed}
use Rattle.cfm_prepare.specs.Kept.Ready.{AllApart, AllHeld, OwnApart}
use Rattle.cfm_prepare.proofs.GroupLemmas.{all-swap}
use Rattle.cfm_prepare.proofs.PlacedLemmas.{placed-apart, placed-own}

-- they can be released
pub filled-back : (m : Layout) (fs : List Present) (bytes : Present → ℕ → List ℕ) → all_given_back (all_filled m fs bytes) fs ≡ m
filled-back m [] bytes = refl
filled-back m (f ∷ fs) bytes =
    let mid = with_filled m f.places (bytes f) in
    all-swap (all_filled mid fs bytes) fs f.places ∙ ap (λ (k : Layout). given_back k f.places) (filled-back mid fs bytes) ∙ filled_given_back m f.places (bytes f)

-- all other instances keep their bytes
filled-elsewhere : (m : Layout) (fs : List Present) (bytes : Present → ℕ → List ℕ) (address : ℕ)
    → ((i k : ℕ) → i < length fs → k < length (present_at fs i).places → (place_at (present_at fs i).places k).address ≢ address)
    → bytes_at (all_filled m fs bytes).instances address ≡ bytes_at m.instances address
filled-elsewhere m [] bytes address apart = refl
filled-elsewhere m (f ∷ fs) bytes address apart =
    filled-elsewhere (with_filled m f.places (bytes f)) fs bytes address (λ i k under low. apart (suc i) k (omega (arith, under)) low)
    ∙ filled_elsewhere m f.places (bytes f) address (λ k low. apart 0 k (omega arith) low)

-- and they have the bytes that are given
pub filled-stand : (m : Layout) (fs : List Present) (bytes : Present → ℕ → List ℕ) → OwnApart fs → AllApart fs → StandAll (all_filled m fs bytes) fs bytes
filled-stand m [] bytes own apart i under = absurd (omega (arith, under))
filled-stand m (f ∷ fs) bytes own apart zero under = λ k low.
    filled-elsewhere (with_filled m f.places (bytes f)) fs bytes (place_at f.places k).address
    (λ i a high less. apart (suc i) 0 a k (omega (arith, high)) (omega arith) (λ same. omega (arith, same)) less low)
    ∙ filled_stand m f.places (bytes f) (own 0 (omega arith)) k low
filled-stand m (f ∷ fs) bytes own apart (suc i) under =
    filled-stand (with_filled m f.places (bytes f)) fs bytes (λ j high. own (suc j) (omega (arith, high)))
    (λ j k a b high low other less more. apart (suc j) (suc k) a b (omega (arith, high)) (omega (arith, low)) (λ same. other (omega (arith, same))) less more) i (omega (arith, under))

-- one fragment more
pub filled-push : (m : Layout) (fs : List Present) (f : Present) (bytes : Present → ℕ → List ℕ) → all_filled m (fs ++ f ∷ []) bytes ≡ with_filled (all_filled m fs bytes) f.places (bytes f)
filled-push m [] f bytes = refl
filled-push m (g ∷ fs) f bytes = filled-push (with_filled m g.places (bytes g)) fs f bytes

-- the same places are free in it as with zeros
filled-shape : (rule : Rule) (pairs : List Pair) (m n : Layout) (fs : List Present) (after : Layout) (bytes : Present → ℕ → List ℕ) → SameShape m n → ((j : ℕ) → j < length fs → HaveSizes (bytes (present_at fs j)) (present_at fs j))
    → AllPlacedBy rule pairs m fs after → SameShape after (all_filled n fs bytes)
filled-shape rule pairs m n [] after bytes shape sizes placed = subst (λ (k : Layout). SameShape k n) (sym placed) shape
filled-shape rule pairs m n (f ∷ fs) after bytes shape sizes placed =
    filled-shape (rule_after rule (length f.places)) pairs placed.0 (with_filled n f.places (bytes f)) fs after bytes
    (filled_shape rule m n (extents_in pairs f.position) (bytes f) f.places placed.0 shape (sizes 0 (omega arith)) placed.1) (λ j under. sizes (suc j) (omega (arith, under))) placed.2

-- fragments that were placed
pub have-shape : {rule : Rule} (pairs : List Pair) (m : Layout) (there now : List Present) (new : List ℕ) (after : Layout) → (all : HavePlacedWith rule pairs m there new now after) → SameShape all.empty after
have-shape {rule} pairs m there now new after all =
    let P : Layout → Type 0 = λ k. SameShape all.empty k in
    subst P (sym all.filled) (filled-shape rule pairs m m all.have.fresh all.empty (λ f. section_placed pairs f.position) (shape_self m) all.sizes all.have.placed)

pub have-back : {rule : Rule} (pairs : List Pair) (m : Layout) (there now : List Present) (new : List ℕ) (after : Layout) → (all : HavePlacedWith rule pairs m there new now after) → all_given_back after all.have.fresh ≡ m
have-back pairs m there now new after all =
    ap (λ (k : Layout). all_given_back k all.have.fresh) all.filled ∙ filled-back m all.have.fresh (λ f. section_placed pairs f.position)

pub have-stand : {rule : Rule} (pairs : List Pair) (m : Layout) (there now : List Present) (new : List ℕ) (after : Layout) → (all : HavePlacedWith rule pairs m there new now after) → StandAll after all.have.fresh (λ f. section_placed pairs f.position)
have-stand {rule} pairs m there now new after all =
    let fresh = all.have.fresh in
    let P : Layout → Type 0 = λ k. StandAll k fresh (λ f. section_placed pairs f.position) in
    subst P (sym all.filled)
    (filled-stand m fresh (λ f. section_placed pairs f.position) (placed-own rule pairs m fresh all.empty all.have.placed) (placed-apart rule pairs m fresh all.empty all.have.placed))

pub have-held : {rule : Rule} (pairs : List Pair) (m : Layout) (there now : List Present) (new : List ℕ) (after : Layout) → (all : HavePlacedWith rule pairs m there new now after) → AllHeld after all.have.fresh
have-held pairs m there now new after all i under =
    let f = present_at all.have.fresh i in
    stand_held after f.places (section_placed pairs f.position) (have-stand pairs m there now new after all i under) (all.sizes i under)
