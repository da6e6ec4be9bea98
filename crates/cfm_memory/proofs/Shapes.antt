-- Memories whose instances have the same addresses and lengths, whatever their bytes are: the same addresses have room in them.
use Rattle.std.proofs.Common.{◌≡◌, ◌≤◌, ◌⊎◌, ◌+◌, ℕ, suc, ◌<◌, List, [], ◌∷◌, length, replicate, refl, sym, ap, subst, ◌∙◌, inl, inr, arith}
use Rattle.std.proofs.lemmas.Bool.Decides.{leb_tells}
use Rattle.std.proofs.lemmas.List.{length-replicate}
use Rattle.std.specs.Prelude.{leb}
use Rattle.cfm_memory.specs.Extents.{AreApart, AreHeld, ArePlacedBy, ArePlacedWith, Extent, HasNoPlaceBy, IsPlaceBy, Rule, Stand, at_given, at_lowest, given_back, place_at, rule_after, with_filled, with_one}
use Rattle.cfm_memory.specs.Instances.{Instance, Layout, with_instance, with_instances}
use Rattle.cfm_memory.specs.Placement.{taken, IsFree, IsRoom, with_new}
use Rattle.cfm_memory.specs.declared.place.Place.{Place}
use Rattle.cfm_memory.proofs.Filled.{filled_given_back, filled_stand}
use Rattle.cfm_memory.proofs.InTurn.{placed_apart, stand_held}

-- instances with the same addresses and lengths
abbrev pub AreAlike : List Instance → List Instance → Type 0
AreAlike [] [] = Unit {0}
AreAlike [] (y ∷ ys) = ⊥
AreAlike (x ∷ xs) [] = ⊥
AreAlike (x ∷ xs) (y ∷ ys) = (x.address ≡ y.address) × (length x.bytes ≡ length y.bytes) × AreAlike xs ys

-- memories that differ in the bytes of instances alone
pub record SameShape (m n : Layout) : Type 0 where
  pub is : n ≡ with_instances m n.instances
  pub alike : AreAlike m.instances n.instances

alike_self : (xs : List Instance) → AreAlike xs xs
alike_self [] = tt
alike_self (x ∷ xs) = (refl, refl, alike_self xs)

alike_back : (xs ys : List Instance) → AreAlike xs ys → AreAlike ys xs
alike_back [] [] alike = tt
alike_back [] (y ∷ ys) alike = absurd alike
alike_back (x ∷ xs) [] alike = absurd alike
alike_back (x ∷ xs) (y ∷ ys) alike = (sym alike.0, sym alike.1, alike_back xs ys alike.2)

pub shape_self : (m : Layout) → SameShape m m
shape_self m = record { is = refl; alike = alike_self m.instances }

pub shape_back : (m n : Layout) → SameShape m n → SameShape n m
shape_back m n shape = record { is = sym (ap (λ (k : Layout). with_instances k m.instances) shape.is); alike = alike_back m.instances n.instances shape.alike }

-- what is free in one is free in the other
alike_free : (g address end : ℕ) (xs ys : List Instance) → AreAlike xs ys → IsFree g address end xs → IsFree g address end ys
alike_free g address end [] [] alike free = tt
alike_free g address end [] (y ∷ ys) alike free = absurd alike
alike_free g address end (x ∷ xs) [] alike free = absurd alike
alike_free g address end (x ∷ xs) (y ∷ ys) alike free =
    let P : ℕ → Type 0 = λ at. (end ≤ at) ⊎ (at + taken g (length x.bytes) ≤ address) in
    let Q : ℕ → Type 0 = λ n. (end ≤ y.address) ⊎ (y.address + taken g n ≤ address) in
    (subst Q alike.1 (subst P alike.0 free.0), alike_free g address end xs ys alike.2 free.1)

shape_room : (m n : Layout) (size alignment address : ℕ) → SameShape m n → IsRoom m size alignment address → IsRoom n size alignment address
shape_room m n size alignment address shape room =
    let P : Layout → Type 0 = λ k. IsRoom k size alignment address in
    subst P (sym shape.is) (record { from = room.from; aligned = room.aligned; inside = room.inside; free = alike_free m.granule address (address + taken m.granule size) m.instances n.instances shape.alike room.free; clear = room.clear })

-- so an extent has the same place in both, or none
pub shape_place : (rule : Rule) (m n : Layout) (e : Extent) (p : Place) → SameShape m n → IsPlaceBy rule m e p → IsPlaceBy rule n e p
shape_place at_lowest m n e p shape is = record {
  size = is.size;
  lowest = record {
    room = shape_room m n e.size e.alignment p.address shape is.lowest.room;
    lowest = λ other room. is.lowest.lowest other (shape_room n m e.size e.alignment other (shape_back m n shape) room);
  };
}
shape_place (at_given []) m n e p shape is = absurd is
shape_place (at_given (address ∷ addresses)) m n e p shape is = (record { size = is.0.size; room = shape_room m n e.size e.alignment p.address shape is.0.room }, is.1)

pub shape_lack : (rule : Rule) (m n : Layout) (e : Extent) → SameShape m n → HasNoPlaceBy rule m e → HasNoPlaceBy rule n e
shape_lack at_lowest m n e shape lacks = λ address room. lacks address (shape_room n m e.size e.alignment address (shape_back m n shape) room)
shape_lack (at_given []) m n e shape lacks = tt
shape_lack (at_given (address ∷ addresses)) m n e shape lacks = λ room. lacks (shape_room n m e.size e.alignment address (shape_back m n shape) room)

-- both have a new instance more
alike_with : (xs ys : List Instance) (address : ℕ) (b c : List ℕ) → length b ≡ length c → AreAlike xs ys → AreAlike (with_instance xs (record { address = address; bytes = b })) (with_instance ys (record { address = address; bytes = c }))
alike_with [] [] address b c len alike = (refl, len, tt)
alike_with [] (y ∷ ys) address b c len alike = absurd alike
alike_with (x ∷ xs) [] address b c len alike = absurd alike
alike_with (x ∷ xs) (y ∷ ys) address b c len alike =
    let same = ap (λ n. leb (suc n) address) alike.0 in
    elim (leb_tells (suc x.address) address) [
      | inl below ↦ rw (below.0, sym same ∙ below.0) (alike.0, alike.1, alike_with xs ys address b c len alike.2)
      | inr above ↦ rw (above.0, sym same ∙ above.0) (refl, len, alike)
    ]

pub shape_with : (m n : Layout) (p : Place) (b c : List ℕ) → length b ≡ length c → SameShape m n → SameShape (with_one m p b) (with_one n p c)
shape_with m n p b c len shape = record {
  is = ap (λ (k : Layout). with_instances k (with_instance n.instances (record { address = p.address; bytes = c }))) shape.is;
  alike = alike_with m.instances n.instances p.address b c len shape.alike;
}

-- instances that are placed in one memory are placed so in the other, too
pub placed_moved : (rule : Rule) (m n : Layout) (extents : List Extent) (places : List Place) (after : Layout) → SameShape m n → ArePlacedBy rule m extents places after → (k : Layout) × ArePlacedBy rule n extents places k × SameShape after k
placed_moved rule m n [] [] after shape placed = (n, refl, subst (λ (k : Layout). SameShape k n) (sym placed) shape)
placed_moved rule m n [] (p ∷ places) after shape placed = absurd placed
placed_moved rule m n (e ∷ extents) [] after shape placed = absurd placed
placed_moved rule m n (e ∷ extents) (p ∷ places) after shape placed =
    let rest = placed_moved (rule_after rule 1) (with_new m p) (with_new n p) extents places after (shape_with m n p (replicate p.size 0) (replicate p.size 0) refl shape) placed.1 in
    (rest.0, (shape_place rule m n e p shape placed.0, rest.1), rest.2)

-- whatever bytes they have
pub filled_shape : (rule : Rule) (m n : Layout) (extents : List Extent) (bytes : ℕ → List ℕ) (places : List Place) (after : Layout) → SameShape m n → ((k : ℕ) → k < length places → length (bytes k) ≡ (place_at places k).size)
    → ArePlacedBy rule m extents places after → SameShape after (with_filled n places bytes)
filled_shape rule m n [] bytes [] after shape lengths placed = subst (λ (k : Layout). SameShape k n) (sym placed) shape
filled_shape rule m n [] bytes (p ∷ places) after shape lengths placed = absurd placed
filled_shape rule m n (e ∷ extents) bytes [] after shape lengths placed = absurd placed
filled_shape rule m n (e ∷ extents) bytes (p ∷ places) after shape lengths placed =
    filled_shape (rule_after rule 1) (with_new m p) (with_one n p (bytes 0)) extents (λ k. bytes (suc k)) places after
    (shape_with m n p (replicate p.size 0) (bytes 0) (length-replicate {A = ℕ} p.size 0 ∙ sym (lengths 0 (omega arith))) shape) (λ k under. lengths (suc k) (omega (arith, under))) placed.1

pub with_shape : (rule : Rule) (m n : Layout) (extents : List Extent) (bytes : ℕ → List ℕ) (places : List Place) (after : Layout) → SameShape n m → (all : ArePlacedWith rule m extents bytes places after)
    → (k : Layout) × ArePlacedBy rule n extents places k × SameShape k after
with_shape rule m n extents bytes places after shape all =
    let moved = placed_moved rule m n extents places all.empty (shape_back n m shape) all.placed in
    let P : Layout → Type 0 = λ k. SameShape moved.0 k in
    (moved.0, moved.1, subst P (sym all.filled) (filled_shape rule n m extents bytes places moved.0 shape all.lengths moved.1))

-- instances that are placed with bytes are apart, have these bytes, are held, and leave the earlier instances when they are removed
pub with_apart : (rule : Rule) (m : Layout) (extents : List Extent) (bytes : ℕ → List ℕ) (places : List Place) (after : Layout) → ArePlacedWith rule m extents bytes places after → AreApart places
with_apart rule m extents bytes places after all = placed_apart rule m extents places all.empty all.placed

with_stand : (rule : Rule) (m : Layout) (extents : List Extent) (bytes : ℕ → List ℕ) (places : List Place) (after : Layout) → ArePlacedWith rule m extents bytes places after → Stand after places bytes
with_stand rule m extents bytes places after all =
    let P : Layout → Type 0 = λ k. Stand k places bytes in
    subst P (sym all.filled) (filled_stand m places bytes (with_apart rule m extents bytes places after all))

pub with_held : (rule : Rule) (m : Layout) (extents : List Extent) (bytes : ℕ → List ℕ) (places : List Place) (after : Layout) → ArePlacedWith rule m extents bytes places after → AreHeld after places
with_held rule m extents bytes places after all = stand_held after places bytes (with_stand rule m extents bytes places after all) all.lengths

pub with_given_back : (rule : Rule) (m : Layout) (extents : List Extent) (bytes : ℕ → List ℕ) (places : List Place) (after : Layout) → ArePlacedWith rule m extents bytes places after → given_back after places ≡ m
with_given_back rule m extents bytes places after all = ap (λ (k : Layout). given_back k places) all.filled ∙ filled_given_back m places bytes
