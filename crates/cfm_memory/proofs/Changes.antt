-- The instances stay laid out after a change.
use Rattle.std.proofs.Common.{◌≡◌, ◌⊎◌, ℕ, suc, true, ◌+◌, ◌≤◌, Option, None, Some, OnSome, Bor, option_copied, refl, List, [], ◌∷◌, ◌++◌, length, drop, sym, subst, inl, inr, arith, length-take, length-drop, length-append}
use Rattle.std.proofs.lemmas.Bool.Decides.{Decides-eqb, eqb_tells, leb_tells}
use Rattle.std.proofs.lemmas.Option.{same_Some}
use Rattle.cfm_memory.specs.Instances.{Instance, Layout, bytes_at, fitted, has_length, holds_place, range_at, with_bytes, with_instance, without}
use Rattle.cfm_memory.specs.Kept.Searches.{IsKept}
use Rattle.cfm_memory.specs.Placement.{taken, end_of, AreClear, IsClear, IsFree, IsInOrder, IsLaidOut}
use Rattle.cfm_memory.specs.declared.hints.Hint.{Hint}
use Rattle.cfm_memory.specs.declared.place.Place.{Place}
use Rattle.cfm_memory.specs.declared.place.Reserved.{Reserved}
use Rattle.cfm_memory.proofs.Placing.{some_taken, within_taken}

-- instances that begin after an address begin after a lower one
pub laid_out_from : (g from lower limit : ℕ) (xs : List Instance) → lower ≤ from → IsLaidOut g from limit xs → IsLaidOut g lower limit xs
laid_out_from g from lower limit [] less laid = tt
laid_out_from g from lower limit (x ∷ xs) less laid = (omega arith, laid.1, laid.2)

pub laid_out_to : (g from limit higher : ℕ) (xs : List Instance) → limit ≤ higher → IsLaidOut g from limit xs → IsLaidOut g from higher xs
laid_out_to g from limit higher [] less laid = tt
laid_out_to g from limit higher (x ∷ xs) less laid = (laid.0, omega arith, laid_out_to g (end_of g x) limit higher xs less laid.2)

pub laid_out_without : (g from limit : ℕ) (xs : List Instance) (address : ℕ) → IsLaidOut g from limit xs → IsLaidOut g from limit (without xs address)
laid_out_without g from limit [] address laid = tt
laid_out_without g from limit (x ∷ xs) address laid =
    elim (eqb_tells x.address address) [
      | inl same ↦ rw same.0 (laid_out_from g (end_of g x) from limit xs (omega arith) laid.2)
      | inr other ↦ rw other.0 (laid.0, laid.1, laid_out_without g (end_of g x) limit xs address laid.2)
    ]

pub laid_out_with : (g from limit : ℕ) (xs : List Instance) (y : Instance) → from ≤ y.address → end_of g y ≤ limit → IsFree g y.address (end_of g y) xs → IsLaidOut g from limit xs → IsLaidOut g from limit (with_instance xs y)
laid_out_with g from limit [] y low high free laid = (low, high, tt)
laid_out_with g from limit (x ∷ xs) y low high free laid =
    let some_x = some_taken g (length x.bytes) in
    let some_y = some_taken g (length y.bytes) in
    elim (leb_tells (suc x.address) y.address) [
      | inl below ↦ rw below.0 (laid.0, laid.1, laid_out_with g (end_of g x) limit xs y (elim (free.0) as (λ _. end_of g x ≤ y.address) [ inl h ↦ omega arith | inr h ↦ h ]) high free.1 laid.2)
      | inr above ↦ rw above.0 (low, high, (elim (free.0) as (λ _. end_of g y ≤ x.address) [ inl h ↦ h | inr h ↦ omega arith ], laid.1, laid.2))
    ]

pub length-fitted : (xs w : List ℕ) → length (fitted xs w) ≡ length xs
length-fitted xs w = omega (arith, length-take (length xs) (w ++ drop (length w) xs), length-append w (drop (length w) xs), length-drop (length w) xs)

pub laid_out_written : (g from limit : ℕ) (xs : List Instance) (address : ℕ) (w : List ℕ) → IsLaidOut g from limit xs → IsLaidOut g from limit (with_bytes xs address w)
laid_out_written g from limit [] address w laid = tt
laid_out_written g from limit (x ∷ xs) address w laid =
    elim (eqb_tells x.address address) [
      | inl same ↦ (let P : ℕ → Type 0 = λ n. (from ≤ x.address) × (x.address + taken g n ≤ limit) × IsLaidOut g (x.address + taken g n) limit xs in rw same.0 (subst P (sym (length-fitted x.bytes w)) laid))
      | inr other ↦ rw other.0 (laid.0, laid.1, laid_out_written g (end_of g x) limit xs address w laid.2)
    ]

-- what holds of the fields holds of the memory
pub in_order_seen : (g limit : ℕ) (hints : List Hint) (xs : List Instance) (rs : List Reserved) (m : Layout) → record { granule = g; limit = limit; instances = xs; reserved = rs } ≡ m → IsKept g limit xs rs hints → IsInOrder m
in_order_seen g limit hints xs rs m view_is kept = subst IsInOrder view_is (record { laid_out = kept.laid_out; in_turn = kept.in_turn; clear = kept.clear })

-- a part of what is clear is clear
clear_within : (address end from to : ℕ) (rs : List Reserved) → address ≤ from → to ≤ end → IsClear address end rs → IsClear from to rs
clear_within address end from to [] low high clear = tt
clear_within address end from to (r ∷ rs) low high clear =
    (elim (clear.0) as (λ _. (to ≤ r.from) ⊎ (r.to ≤ from)) [ inl h ↦ inl (omega (arith, h, high)) | inr h ↦ inr (omega (arith, h, low)) ], clear_within address end from to rs low high clear.1)

-- so no bytes are inside a reserved range
pub range_clear : (g : ℕ) (xs : List Instance) (rs : List Reserved) (address len : ℕ) (bytes : List ℕ) → AreClear g xs rs → range_at xs address len ≡ Some bytes → IsClear address (address + len) rs
range_clear g [] rs address len bytes clear is = absurd (cc)
range_clear g (x ∷ xs) rs address len bytes clear is =
    let within = within_taken g (length x.bytes) in
    elim (leb_tells x.address address) [
      | inl from ↦ elim (leb_tells (address + len) (x.address + length x.bytes)) [
        | inl ends ↦ clear_within x.address (end_of g x) address (address + len) rs from.1 (omega (arith, ends.1, within)) clear.0
        | inr past ↦ range_clear g xs rs address len bytes clear.1 (rw (from.0, past.0) at is)
      ]
      | inr before ↦ range_clear g xs rs address len bytes clear.1 (rw before.0 at is)
    ]

pub held_clear : (g : ℕ) (xs : List Instance) (rs : List Reserved) (address : ℕ) (bytes : List ℕ) → AreClear g xs rs → bytes_at xs address ≡ Some bytes → IsClear address (address + taken g (length bytes)) rs
held_clear g [] rs address bytes clear is = absurd (cc)
held_clear g (x ∷ xs) rs address bytes clear is =
    elim (eqb_tells x.address address) [
      | inl same ↦
          (let e : x.bytes ≡ bytes = same_Some x.bytes bytes (rw same.0 at is) in
          let P : List ℕ → Type 0 = λ b. IsClear x.address (x.address + taken g (length b)) rs in
          let Q : ℕ → Type 0 = λ a. IsClear a (a + taken g (length bytes)) rs in subst Q same.1 (subst P e clear.0))
      | inr other ↦ held_clear g xs rs address bytes clear.1 (rw other.0 at is)
    ]

pub part_clear : (m : Layout) (address : ℕ) (bytes : List ℕ) → IsInOrder m → bytes_at m.instances address ≡ Some bytes → IsClear address (address + length bytes) m.reserved
part_clear m address bytes order is =
    let within = within_taken m.granule (length bytes) in
    clear_within address (address + taken m.granule (length bytes)) address (address + length bytes) m.reserved (omega arith) (omega (arith, within)) (held_clear m.granule m.instances m.reserved address bytes order.clear is)

-- what the code finds is clear
pub found_clear : (m : Layout) (o : Option (Bor (List ℕ))) (address len : ℕ) → IsInOrder m → option_copied o ≡ range_at m.instances address len → OnSome o (IsClear address (address + len) m.reserved)
found_clear m None address len order is = tt
found_clear m (Some bytes) address len order is = range_clear m.granule m.instances m.reserved address len bytes.now order.clear (sym is)

pub place_clear : (m : Layout) (place : Place) → IsInOrder m → holds_place m place ≡ true → IsClear place.address (place.address + taken m.granule place.size) m.reserved
place_clear m place order held = by (bytes_at m.instances place.address) refl held
  where
    by : (o : Option (List ℕ)) → bytes_at m.instances place.address ≡ o → has_length o place.size ≡ true → IsClear place.address (place.address + taken m.granule place.size) m.reserved
    by None is held = absurd (cc)
    by (Some bytes) is held =
        let P : ℕ → Type 0 = λ n. IsClear place.address (place.address + taken m.granule n) m.reserved in
        subst P ((Decides-eqb (length bytes) place.size).0 held) (held_clear m.granule m.instances m.reserved place.address bytes order.clear is)

-- the instances meet no reserved range after a change either
pub clear_without : (g : ℕ) (xs : List Instance) (rs : List Reserved) (address : ℕ) → AreClear g xs rs → AreClear g (without xs address) rs
clear_without g [] rs address clear = tt
clear_without g (x ∷ xs) rs address clear =
    elim (eqb_tells x.address address) [
      | inl same ↦ rw same.0 clear.1
      | inr other ↦ rw other.0 (clear.0, clear_without g xs rs address clear.1)
    ]

pub clear_with : (g : ℕ) (xs : List Instance) (rs : List Reserved) (y : Instance) → IsClear y.address (end_of g y) rs → AreClear g xs rs → AreClear g (with_instance xs y) rs
clear_with g [] rs y new clear = (new, tt)
clear_with g (x ∷ xs) rs y new clear =
    elim (leb_tells (suc x.address) y.address) [
      | inl below ↦ rw below.0 (clear.0, clear_with g xs rs y new clear.1)
      | inr above ↦ rw above.0 (new, clear)
    ]

pub clear_written : (g : ℕ) (xs : List Instance) (rs : List Reserved) (address : ℕ) (w : List ℕ) → AreClear g xs rs → AreClear g (with_bytes xs address w) rs
clear_written g [] rs address w clear = tt
clear_written g (x ∷ xs) rs address w clear =
    elim (eqb_tells x.address address) [
      | inl same ↦ (let P : ℕ → Type 0 = λ n. IsClear x.address (x.address + taken g n) rs × AreClear g xs rs in rw same.0 (subst P (sym (length-fitted x.bytes w)) clear))
      | inr other ↦ rw other.0 (clear.0, clear_written g xs rs address w clear.1)
    ]
