-- Fragments that were placed in turn.
use Rattle.std.proofs.Common.{◌≡◌, ◌≢◌, ℕ, zero, suc, ◌<◌, List, [], ◌∷◌, ◌++◌, Some, length, refl, sym, ap, subst, ◌∙◌, arith}
use Rattle.std.proofs.lemmas.List.{length-replicate}
use Rattle.cfm_memory.specs.Extents.{ArePlacedBy, Rule, given_back, place_at, rule_after, zeros_at}
use Rattle.cfm_memory.specs.Instances.{Layout, bytes_at}
use Rattle.cfm_memory.proofs.Laws.{after-both, after-none, placed_apart, placed_given_back, placed_new, placed_stand, placed_stays, stand_held}
use Rattle.cfm_store.specs.Stores.{Pair}
use Rattle.cfm_prepare.specs.Fragments.{Present, StandAll, all_given_back, extents_in, present_at}
use Rattle.cfm_prepare.specs.Placing.{AllPlacedBy, Fits}
use Rattle.cfm_prepare.specs.Kept.Ready.{AllApart, AllHeld, OwnApart, place_count}
use Rattle.cfm_prepare.proofs.GroupLemmas.{ArePairApart, all-swap}

-- one more is placed
pub placed-push : (rule : Rule) (pairs : List Pair) (m mid after : Layout) (fs : List Present) (f : Present) → AllPlacedBy rule pairs m fs mid → ArePlacedBy (rule_after rule (place_count fs)) mid (extents_in pairs f.position) f.places after
    → AllPlacedBy rule pairs m (fs ++ f ∷ []) after
placed-push rule pairs m mid after [] f placed new =
    let P : Layout → Type 0 = λ k. ArePlacedBy rule k (extents_in pairs f.position) f.places after in
    (after, subst P placed (subst (λ r. ArePlacedBy r mid (extents_in pairs f.position) f.places after) (after-none rule) new), refl)
placed-push rule pairs m mid after (g ∷ fs) f placed new =
    let rest = subst (λ r. ArePlacedBy r mid (extents_in pairs f.position) f.places after) (sym (after-both rule (length g.places) (place_count fs))) new in
    (placed.0, placed.1, placed-push (rule_after rule (length g.places)) pairs placed.0 mid after fs f placed.2 rest)

-- all can be released
pub placed-back : (rule : Rule) (pairs : List Pair) (m : Layout) (fs : List Present) (after : Layout) → AllPlacedBy rule pairs m fs after → all_given_back after fs ≡ m
placed-back rule pairs m [] after placed = placed
placed-back rule pairs m (f ∷ fs) after placed =
    all-swap after fs f.places ∙ ap (λ (k : Layout). given_back k f.places) (placed-back (rule_after rule (length f.places)) pairs placed.0 fs after placed.2)
    ∙ placed_given_back rule m (extents_in pairs f.position) f.places placed.0 placed.1

-- the earlier instances stay
pub placed-stays : (rule : Rule) (pairs : List Pair) (m : Layout) (fs : List Present) (after : Layout) (address : ℕ) (bytes : List ℕ) → AllPlacedBy rule pairs m fs after
    → bytes_at m.instances address ≡ Some bytes → bytes_at after.instances address ≡ Some bytes
placed-stays rule pairs m [] after address bytes placed there = rw placed there
placed-stays rule pairs m (f ∷ fs) after address bytes placed there =
    placed-stays (rule_after rule (length f.places)) pairs placed.0 fs after address bytes placed.2 (placed_stays rule m (extents_in pairs f.position) f.places placed.0 address bytes placed.1 there)

-- at other addresses
pub placed-new : (rule : Rule) (pairs : List Pair) (m : Layout) (fs : List Present) (after : Layout) (i k address : ℕ) (bytes : List ℕ) → AllPlacedBy rule pairs m fs after
    → i < length fs → k < length (present_at fs i).places → bytes_at m.instances address ≡ Some bytes → address ≢ (place_at (present_at fs i).places k).address
placed-new rule pairs m [] after i k address bytes placed under low there = absurd (omega arith)
placed-new rule pairs m (f ∷ fs) after zero k address bytes placed under low there = placed_new rule m (extents_in pairs f.position) f.places placed.0 k address bytes placed.1 low there
placed-new rule pairs m (f ∷ fs) after (suc i) k address bytes placed under low there =
    placed-new (rule_after rule (length f.places)) pairs placed.0 fs after i k address bytes placed.2 (omega arith) low (placed_stays rule m (extents_in pairs f.position) f.places placed.0 address bytes placed.1 there)

-- the new sections are apart
pub placed-apart : (rule : Rule) (pairs : List Pair) (m : Layout) (fs : List Present) (after : Layout) → AllPlacedBy rule pairs m fs after → AllApart fs
placed-apart rule pairs m [] after placed i j a b under high other low less = absurd (omega arith)
placed-apart rule pairs m (f ∷ fs) after placed zero zero a b under high other low less = absurd (other refl)
placed-apart rule pairs m (f ∷ fs) after placed zero (suc j) a b under high other low less =
    placed-new (rule_after rule (length f.places)) pairs placed.0 fs after j b (place_at f.places a).address _ placed.2 (omega arith) less (placed_stand rule m (extents_in pairs f.position) f.places placed.0 placed.1 a low)
placed-apart rule pairs m (f ∷ fs) after placed (suc i) zero a b under high other low less =
    λ same. placed-new (rule_after rule (length f.places)) pairs placed.0 fs after i a (place_at f.places b).address _ placed.2 (omega arith) low (placed_stand rule m (extents_in pairs f.position) f.places placed.0 placed.1 b less) (sym same)
placed-apart rule pairs m (f ∷ fs) after placed (suc i) (suc j) a b under high other low less =
    placed-apart (rule_after rule (length f.places)) pairs placed.0 fs after placed.2 i j a b (omega arith) (omega arith) (λ e. other (ap suc e)) low less

pub placed-pairs : (rule : Rule) (pairs : List Pair) (m : Layout) (fs : List Present) (after : Layout) → AllPlacedBy rule pairs m fs after → (i j : ℕ) → i < length fs → j < length fs → i ≢ j → ArePairApart (present_at fs i) (present_at fs j)
placed-pairs rule pairs m fs after placed i j under high other a b = placed-apart rule pairs m fs after placed i j a b under high other

pub placed-own : (rule : Rule) (pairs : List Pair) (m : Layout) (fs : List Present) (after : Layout) → AllPlacedBy rule pairs m fs after → OwnApart fs
placed-own rule pairs m [] after placed i under = absurd (omega arith)
placed-own rule pairs m (f ∷ fs) after placed zero under = placed_apart rule m (extents_in pairs f.position) f.places placed.0 placed.1
placed-own rule pairs m (f ∷ fs) after placed (suc i) under = placed-own (rule_after rule (length f.places)) pairs placed.0 fs after placed.2 i (omega arith)

-- they have the places of their fragments' sections
pub placed-fit : (rule : Rule) (pairs : List Pair) (m : Layout) (fs : List Present) (after : Layout) → AllPlacedBy rule pairs m fs after → (i : ℕ) → i < length fs → Fits pairs (present_at fs i)
placed-fit rule pairs m [] after placed i under = absurd (omega arith)
placed-fit rule pairs m (f ∷ fs) after placed zero under = record { rule = rule; before = m; after = placed.0; placed = placed.1 }
placed-fit rule pairs m (f ∷ fs) after placed (suc i) under = placed-fit (rule_after rule (length f.places)) pairs placed.0 fs after placed.2 i (omega arith)

-- and are zeros
pub placed-zeros : (rule : Rule) (pairs : List Pair) (m : Layout) (fs : List Present) (after : Layout) → AllPlacedBy rule pairs m fs after → StandAll after fs (λ (f : Present). zeros_at f.places)
placed-zeros rule pairs m [] after placed i under = absurd (omega arith)
placed-zeros rule pairs m (f ∷ fs) after placed zero under = λ k low. placed-stays (rule_after rule (length f.places)) pairs placed.0 fs after (place_at f.places k).address _ placed.2 (placed_stand rule m (extents_in pairs f.position) f.places placed.0 placed.1 k low)
placed-zeros rule pairs m (f ∷ fs) after placed (suc i) under = placed-zeros (rule_after rule (length f.places)) pairs placed.0 fs after placed.2 i (omega arith)

pub placed-held : (rule : Rule) (pairs : List Pair) (m : Layout) (fs : List Present) (after : Layout) → AllPlacedBy rule pairs m fs after → AllHeld after fs
placed-held rule pairs m fs after placed i under =
    stand_held after (present_at fs i).places (zeros_at (present_at fs i).places) (placed-zeros rule pairs m fs after placed i under) (λ k low. length-replicate {A = ℕ} (place_at (present_at fs i).places k).size 0)
