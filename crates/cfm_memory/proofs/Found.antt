-- Some extents find places or lack one. No more addresses have to be tried than are below the limit.
use Rattle.std.proofs.Common.{◌≡◌, ◌⊎◌, ℕ, zero, suc, ◌+◌, ◌%◌, ◌<◌, ◌≤◌, List, [], ◌∷◌, refl, subst, inl, inr, arith}
use Rattle.std.proofs.lemmas.Bool.{cases_lt}
use Rattle.std.proofs.lemmas.Bool.Decides.{eqb_tells}
use Rattle.cfm_memory.specs.Extents.{ArePlacedBy, Extent, HasNoPlaceBy, HasNoRoomFor, IsPlaceBy, IsPlaceFor, LackPlaceBy, Rule, at_given, at_lowest, rule_after}
use Rattle.cfm_memory.specs.Instances.{Instance, Layout}
use Rattle.cfm_memory.specs.Limits.{first_address}
use Rattle.cfm_memory.specs.Placement.{IsClear, IsFree, IsLowest, IsRoom, end_of, step_of, taken, with_new}
use Rattle.cfm_memory.specs.declared.place.Reserved.{Reserved}
use Rattle.cfm_memory.specs.declared.place.Place.{Place}

-- it holds or it doesn't
abbrev Decided : Type 0 → Type 0
Decided P = P ⊎ (P → ⊥)

both-decided : {P Q : Type 0} → Decided P → Decided Q → Decided (P × Q)
both-decided (inl p) (inl q) = inl (p, q)
both-decided (inl p) (inr none) = inr (λ both. none both.1)
both-decided (inr none) q = inr (λ both. none both.0)

either-decided : {P Q : Type 0} → Decided P → Decided Q → Decided (P ⊎ Q)
either-decided (inl p) q = inl (inl p)
either-decided (inr none) (inl q) = inl (inr q)
either-decided (inr none) (inr neither) = inr (λ either. elim either as (λ _. ⊥) [ inl p ↦ none p | inr q ↦ neither q ])

le-decided : (a b : ℕ) → Decided (a ≤ b)
le-decided a b = elim (cases_lt b a) [ inl over ↦ inr (λ le. omega (arith, over, le)) | inr le ↦ inl le ]

zero-decided : (a : ℕ) → Decided (a ≡ 0)
zero-decided a = elim (eqb_tells a 0) [ inl same ↦ inl same.1 | inr other ↦ inr other.1 ]

free-decided : (g address end : ℕ) (xs : List Instance) → Decided (IsFree g address end xs)
free-decided g address end [] = inl tt
free-decided g address end (x ∷ xs) = both-decided (either-decided (le-decided end x.address) (le-decided (end_of g x) address)) (free-decided g address end xs)

clear-decided : (address end : ℕ) (rs : List Reserved) → Decided (IsClear address end rs)
clear-decided address end [] = inl tt
clear-decided address end (r ∷ rs) = both-decided (either-decided (le-decided end r.from) (le-decided r.to address)) (clear-decided address end rs)

-- an address has room or it hasn't
room-decided : (m : Layout) (size alignment address : ℕ) → Decided (IsRoom m size alignment address)
room-decided m size alignment address =
    go (both-decided (le-decided first_address address)
    (both-decided (zero-decided (address % step_of m.granule alignment))
    (both-decided (le-decided (address + taken m.granule size) m.limit)
    (both-decided (free-decided m.granule address (address + taken m.granule size) m.instances) (clear-decided address (address + taken m.granule size) m.reserved)))))
  where
    go : Decided ((first_address ≤ address) × ((address % step_of m.granule alignment ≡ 0) × ((address + taken m.granule size ≤ m.limit) × (IsFree m.granule address (address + taken m.granule size) m.instances × IsClear address (address + taken m.granule size) m.reserved)))) → Decided (IsRoom m size alignment address)
    go (inl (from, (aligned, (inside, (free, clear))))) = inl (record { from = from; aligned = aligned; inside = inside; free = free; clear = clear })
    go (inr none) = inr (λ room. none (room.from, (room.aligned, (room.inside, (room.free, room.clear)))))

-- one of the n first addresses is the lowest with room, or none of them has room
lowest-among : (m : Layout) (size alignment n : ℕ) → ((address : ℕ) × IsLowest m size alignment address) ⊎ ((address : ℕ) → address < n → IsRoom m size alignment address → ⊥)
lowest-among m size alignment zero = inr (λ address under room. omega (arith, under))
lowest-among m size alignment (suc n) = next (lowest-among m size alignment n)
  where
    last : ((address : ℕ) → address < n → IsRoom m size alignment address → ⊥) → Decided (IsRoom m size alignment n)
        → ((address : ℕ) × IsLowest m size alignment address) ⊎ ((address : ℕ) → address < suc n → IsRoom m size alignment address → ⊥)
    last none (inl room) = inl (
      n,
      record {
        room = room;
        lowest = λ other is. elim (cases_lt other n) as (λ _. n ≤ other) [ inl less ↦ absurd (none other less is) | inr le ↦ le ];
      },
    )
    last none (inr lacks) = inr (λ address under room. elim (cases_lt address n) as (λ _. ⊥) [
      | inl less ↦ none address less room
      | inr le ↦ (let same : address ≡ n = omega (arith, under, le) in lacks (subst (IsRoom m size alignment) same room))
    ])

    next : ((address : ℕ) × IsLowest m size alignment address) ⊎ ((address : ℕ) → address < n → IsRoom m size alignment address → ⊥)
        → ((address : ℕ) × IsLowest m size alignment address) ⊎ ((address : ℕ) → address < suc n → IsRoom m size alignment address → ⊥)
    next (inl found) = inl found
    next (inr none) = last none (room-decided m size alignment n)

-- an extent has a place by a rule, or it has none
place-found : (rule : Rule) (m : Layout) (e : Extent) → ((p : Place) × IsPlaceBy rule m e p) ⊎ HasNoPlaceBy rule m e
place-found at_lowest m e = by (lowest-among m e.size e.alignment (suc m.limit))
  where
    by : ((address : ℕ) × IsLowest m e.size e.alignment address) ⊎ ((address : ℕ) → address < suc m.limit → IsRoom m e.size e.alignment address → ⊥) → ((p : Place) × IsPlaceFor m e p) ⊎ HasNoRoomFor m e
    by (inl found) = inl (record { address = found.0; size = e.size }, record { size = refl; lowest = found.1 })
    by (inr none) = inr (λ address room. none address (let inside = room.inside in omega (arith, inside)) room)
place-found (at_given []) m e = inr tt
place-found (at_given (address ∷ addresses)) m e = by (room-decided m e.size e.alignment address)
  where
    by : Decided (IsRoom m e.size e.alignment address) → ((p : Place) × IsPlaceBy (at_given (address ∷ addresses)) m e p) ⊎ HasNoPlaceBy (at_given (address ∷ addresses)) m e
    by (inl room) = inl (record { address = address; size = e.size }, (record { size = refl; room = room }, refl))
    by (inr none) = inr none

-- some extents have places in turn, or one has none after those before it
pub extents-found : (rule : Rule) (m : Layout) (extents : List Extent) → ((places : List Place) × (after : Layout) × ArePlacedBy rule m extents places after) ⊎ LackPlaceBy rule m extents
extents-found rule m [] = inl ([], m, refl)
extents-found rule m (e ∷ extents) = first (place-found rule m e) (λ p. extents-found (rule_after rule 1) (with_new m p) extents)
  where
    next : (p : Place) → IsPlaceBy rule m e p → ((places : List Place) × (after : Layout) × ArePlacedBy (rule_after rule 1) (with_new m p) extents places after) ⊎ LackPlaceBy (rule_after rule 1) (with_new m p) extents
        → ((places : List Place) × (after : Layout) × ArePlacedBy rule m (e ∷ extents) places after) ⊎ LackPlaceBy rule m (e ∷ extents)
    next p is (inl found) = inl (p ∷ found.0, found.1, (is, found.2))
    next p is (inr lack) = inr (inr (p, is, lack))

    first : ((p : Place) × IsPlaceBy rule m e p) ⊎ HasNoPlaceBy rule m e
        → ((p : Place) → ((places : List Place) × (after : Layout) × ArePlacedBy (rule_after rule 1) (with_new m p) extents places after) ⊎ LackPlaceBy (rule_after rule 1) (with_new m p) extents)
        → ((places : List Place) × (after : Layout) × ArePlacedBy rule m (e ∷ extents) places after) ⊎ LackPlaceBy rule m (e ∷ extents)
    first (inl here) later = next here.0 here.1 (later here.0)
    first (inr none) later = inr (inl none)
