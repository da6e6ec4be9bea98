-- How placements follow one another, and their effect on each other.
use Rattle.std.proofs.Common.{◌≡◌, ◌≢◌, ℕ, zero, suc, ◌+◌, ◌<◌, List, [], ◌∷◌, ◌++◌, Option, None, Some, length, get_or, replicate, refl, sym, ap, subst, ◌∙◌, inl, inr, IsTrue, arith, rules}
use Rattle.std.proofs.lemmas.Bool.{cases_lt}
use Rattle.std.proofs.lemmas.List.{drop-drop, get_or_default, length-replicate}
use Rattle.cfm_memory.specs.Extents.{AreApart, AreHeld, ArePlacedBy, Extent, HasRoom, IsPlaceBy, Rule, Stand, at_given, at_lowest, place_at, rule_after, with_one, zeros_at}
use Rattle.cfm_memory.specs.Instances.{Layout, bytes_at, holds_place}
use Rattle.cfm_memory.specs.Placement.{taken, with_new}
use Rattle.cfm_memory.specs.declared.place.Place.{Place}
use Rattle.cfm_memory.proofs.Contents.{nothing_at_free, placed_here, placed_other}
use Rattle.cfm_memory.proofs.Placing.{some_taken}

-- the value for a place, and for an extent, past the last one
abbrev nowhere : Place
nowhere = record { address = 0; size = 0 }

abbrev pub no_extent : Extent
no_extent = record { size = 0; alignment = 0 }

-- the rule after some instances and others is the one after all of them
pub after-both : (rule : Rule) (a b : ℕ) → rule_after (rule_after rule a) b ≡ rule_after rule (a + b)
after-both at_lowest a b = refl
after-both (at_given addresses) a b = ap at_given (drop-drop b a addresses)

-- before any instance it is the rule itself
pub after-none : (rule : Rule) → rule_after rule 0 ≡ rule
after-none at_lowest = refl
after-none (at_given addresses) = refl

-- extents that are placed after placed ones are placed in one turn
pub placed-append : (rule : Rule) (m mid after : Layout) (extents others : List Extent) (places more : List Place) → ArePlacedBy rule m extents places mid → ArePlacedBy (rule_after rule (length places)) mid others more after
    → ArePlacedBy rule m (extents ++ others) (places ++ more) after
placed-append rule m mid after [] others [] more placed later = subst (λ (k : Layout). ArePlacedBy rule k others more after) placed (subst (λ r. ArePlacedBy r mid others more after) (after-none rule) later)
placed-append rule m mid after [] others (p ∷ places) more placed later = absurd placed
placed-append rule m mid after (e ∷ extents) others [] more placed later = absurd placed
placed-append rule m mid after (e ∷ extents) others (p ∷ places) more placed later =
    let count : suc (length places) ≡ 1 + length places = omega arith in
    let rest = subst (λ r. ArePlacedBy r mid others more after) (ap (rule_after rule) count ∙ sym (after-both rule 1 (length places))) later in
    (placed.0, placed-append (rule_after rule 1) (with_new m p) mid after extents others places more placed.1 rest)

-- there are as many places as extents
pub length-placed : (rule : Rule) (m : Layout) (extents : List Extent) (places : List Place) (after : Layout) → ArePlacedBy rule m extents places after → length places ≡ length extents
length-placed rule m [] [] after placed = refl
length-placed rule m [] (p ∷ places) after placed = absurd placed
length-placed rule m (e ∷ extents) [] after placed = absurd placed
length-placed rule m (e ∷ extents) (p ∷ places) after placed = ap suc (length-placed (rule_after rule 1) (with_new m p) extents places after placed.1)

-- a place by a rule has room, and the extent's size
pub place-room : (rule : Rule) (m : Layout) (e : Extent) (p : Place) → IsPlaceBy rule m e p → HasRoom m e p
place-room at_lowest m e p is = record { size = is.size; room = is.lowest.room }
place-room (at_given []) m e p is = absurd is
place-room (at_given (address ∷ addresses)) m e p is = is.0

-- no instance is at a place with room
fresh : (rule : Rule) (m : Layout) (e : Extent) (p : Place) → IsPlaceBy rule m e p → bytes_at m.instances p.address ≡ None
fresh rule m e p placed =
    let some = some_taken m.granule e.size in
    nothing_at_free m.granule m.instances p.address (p.address + taken m.granule e.size) (omega (arith, some)) (place-room rule m e p placed).room.free

-- if there are bytes the result isn't `None`
some_is_not_none : {A : Type 0} (o : Option A) (x : A) → o ≡ Some x → o ≡ None → ⊥
some_is_not_none o x some none = cc

-- placements leave the earlier instances
pub placed_stays : (rule : Rule) (m : Layout) (extents : List Extent) (places : List Place) (after : Layout) (address : ℕ) (bytes : List ℕ)
    → ArePlacedBy rule m extents places after → bytes_at m.instances address ≡ Some bytes → bytes_at after.instances address ≡ Some bytes
placed_stays rule m [] [] after address bytes placed there = rw placed there
placed_stays rule m [] (p ∷ places) after address bytes placed there = absurd placed
placed_stays rule m (e ∷ extents) [] after address bytes placed there = absurd placed
placed_stays rule m (e ∷ extents) (p ∷ places) after address bytes placed there =
    let apart : p.address ≢ address = λ same. some_is_not_none (bytes_at m.instances address) bytes there (subst (λ a. bytes_at m.instances a ≡ None) same (fresh rule m e p placed.0)) in
    placed_stays (rule_after rule 1) (with_new m p) extents places after address bytes placed.1 (placed_other m.instances (record { address = p.address; bytes = replicate p.size 0 }) address apart ∙ there)

-- every new instance is zeros
zeros_there : (rule : Rule) (m : Layout) (extents : List Extent) (places : List Place) (after : Layout) (k : ℕ) (d : Place)
    → ArePlacedBy rule m extents places after → k < length places → bytes_at after.instances (get_or places k d).address ≡ Some (replicate (get_or places k d).size 0)
zeros_there rule m [] [] after k d placed under = absurd (omega arith)
zeros_there rule m [] (p ∷ places) after k d placed under = absurd placed
zeros_there rule m (e ∷ extents) [] after k d placed under = absurd placed
zeros_there rule m (e ∷ extents) (p ∷ places) after zero d placed under =
    placed_stays (rule_after rule 1) (with_new m p) extents places after p.address (replicate p.size 0) placed.1 (placed_here m.instances (record { address = p.address; bytes = replicate p.size 0 }))
zeros_there rule m (e ∷ extents) (p ∷ places) after (suc k) d placed under = zeros_there (rule_after rule 1) (with_new m p) extents places after k d placed.1 (omega arith)

pub placed_stand : (rule : Rule) (m : Layout) (extents : List Extent) (places : List Place) (after : Layout) → ArePlacedBy rule m extents places after → Stand after places (zeros_at places)
placed_stand rule m extents places after placed k under = zeros_there rule m extents places after k nowhere placed under

-- and has the size that it needs
pub placed_size : (rule : Rule) (m : Layout) (extents : List Extent) (places : List Place) (after : Layout) → ArePlacedBy rule m extents places after → (k : ℕ) → (place_at places k).size ≡ (get_or extents k no_extent).size
placed_size rule m [] [] after placed k = refl
placed_size rule m [] (p ∷ places) after placed k = absurd placed
placed_size rule m (e ∷ extents) [] after placed k = absurd placed
placed_size rule m (e ∷ extents) (p ∷ places) after placed zero = (place-room rule m e p placed.0).size
placed_size rule m (e ∷ extents) (p ∷ places) after placed (suc k) = placed_size (rule_after rule 1) (with_new m p) extents places after placed.1 k

-- a new place isn't that of an earlier instance
place_new : (rule : Rule) (m : Layout) (extents : List Extent) (places : List Place) (after : Layout) (k : ℕ) (d : Place) (address : ℕ) (bytes : List ℕ)
    → ArePlacedBy rule m extents places after → k < length places → bytes_at m.instances address ≡ Some bytes → address ≢ (get_or places k d).address
place_new rule m [] [] after k d address bytes placed under there = absurd (omega arith)
place_new rule m [] (p ∷ places) after k d address bytes placed under there = absurd placed
place_new rule m (e ∷ extents) [] after k d address bytes placed under there = absurd placed
place_new rule m (e ∷ extents) (p ∷ places) after zero d address bytes placed under there =
    λ same. some_is_not_none (bytes_at m.instances address) bytes there (subst (λ a. bytes_at m.instances a ≡ None) (sym same) (fresh rule m e p placed.0))
place_new rule m (e ∷ extents) (p ∷ places) after (suc k) d address bytes placed under there =
    let apart : p.address ≢ address = λ same. some_is_not_none (bytes_at m.instances address) bytes there (subst (λ a. bytes_at m.instances a ≡ None) same (fresh rule m e p placed.0)) in
    place_new (rule_after rule 1) (with_new m p) extents places after k d address bytes placed.1 (omega arith) (placed_other m.instances (record { address = p.address; bytes = replicate p.size 0 }) address apart ∙ there)

pub placed_new : (rule : Rule) (m : Layout) (extents : List Extent) (places : List Place) (after : Layout) (k : ℕ) (address : ℕ) (bytes : List ℕ)
    → ArePlacedBy rule m extents places after → k < length places → bytes_at m.instances address ≡ Some bytes → address ≢ (place_at places k).address
placed_new rule m extents places after k address bytes placed under there = place_new rule m extents places after k nowhere address bytes placed under there

-- no two new instances have the same address
distinct : (rule : Rule) (m : Layout) (extents : List Extent) (places : List Place) (after : Layout) (j k : ℕ) (d : Place)
    → ArePlacedBy rule m extents places after → j < k → k < length places → (get_or places j d).address ≢ (get_or places k d).address
distinct rule m [] [] after j k d placed order under = absurd (omega arith)
distinct rule m [] (p ∷ places) after j k d placed order under = absurd placed
distinct rule m (e ∷ extents) [] after j k d placed order under = absurd placed
distinct rule m (e ∷ extents) (p ∷ places) after j zero d placed order under = absurd (omega arith)
distinct rule m (e ∷ extents) (p ∷ places) after zero (suc k) d placed order under =
    place_new (rule_after rule 1) (with_new m p) extents places after k d p.address (replicate p.size 0) placed.1 (omega arith) (placed_here m.instances (record { address = p.address; bytes = replicate p.size 0 }))
distinct rule m (e ∷ extents) (p ∷ places) after (suc j) (suc k) d placed order under = distinct (rule_after rule 1) (with_new m p) extents places after j k d placed.1 (omega arith) (omega arith)

pub placed_apart : (rule : Rule) (m : Layout) (extents : List Extent) (places : List Place) (after : Layout) → ArePlacedBy rule m extents places after → AreApart places
placed_apart rule m extents places after placed j k order under = distinct rule m extents places after j k nowhere placed order under

-- two places are apart, in either order
pub apart_both : (places : List Place) (j k : ℕ) → j < length places → k < length places → AreApart places → j ≢ k → (place_at places j).address ≢ (place_at places k).address
apart_both places j k low high apart other = elim (cases_lt j k) [
  | inl less ↦ apart j k less high
  | inr le ↦ λ same. apart k j (omega (arith, le, other)) low (sym same)
]

-- an instance of the right length is held
pub is_held : (m : Layout) (p : Place) (bytes : List ℕ) → bytes_at m.instances p.address ≡ Some bytes → length bytes ≡ p.size → IsTrue (holds_place m p)
is_held m p bytes there len = rw (there, len) (search rules)

-- instances that are at their places at the right lengths are held there
pub stand_held : (m : Layout) (places : List Place) (bytes : ℕ → List ℕ) → Stand m places bytes → ((k : ℕ) → k < length places → length (bytes k) ≡ (place_at places k).size) → AreHeld m places
stand_held m places bytes stand len k d under =
    let P : Place → Type 0 = λ p. IsTrue (holds_place m p) in
    subst P (get_or_default places k nowhere d under) (is_held m (place_at places k) (bytes k) (stand k under) (len k under))

-- so new instances are held
pub placed_held : (rule : Rule) (m : Layout) (extents : List Extent) (places : List Place) (after : Layout) → ArePlacedBy rule m extents places after → AreHeld after places
placed_held rule m extents places after placed =
    stand_held after places (zeros_at places) (placed_stand rule m extents places after placed) (λ k under. length-replicate {A = ℕ} (place_at places k).size 0)

-- also a single one, whatever bytes it has
pub one_held : (m : Layout) (p : Place) (bytes : List ℕ) → length bytes ≡ p.size → IsTrue (holds_place (with_one m p bytes) p)
one_held m p bytes len = is_held (with_one m p bytes) p bytes (placed_here m.instances (record { address = p.address; bytes = bytes })) len
