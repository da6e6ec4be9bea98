-- Reserved ranges: the first address past those that are in the way, a range more, and one less.
use Rattle.std.proofs.Common.{◌≡◌, ◌⊎◌, ◌+◌, ◌%◌, ◌^◌, ◌≤◌, ◌<◌, ℕ, zero, suc, Bool, true, false, cond, List, [], ◌∷◌, None, Some, get_or, insert, remove, length, take, refl, ap, inl, inr, arith}
use Rattle.std.proofs.lemmas.Bool.Decides.{eqb_tells, leb_tells}
use Rattle.std.proofs.lemmas.Option.{same_Some}
use Rattle.std.specs.List.Sorted.{IsNonDecreasingBy}
use Rattle.cfm_memory.specs.Instances.{Instance}
use Rattle.cfm_memory.specs.Kept.Searches.{AllPassed, AreLowered, IsFirstFree, IsFirstVacant, IsKept, range_number}
use Rattle.cfm_memory.specs.Placement.{AreClear, AreInTurn, IsClear, IsFree, end_of}
use Rattle.cfm_memory.specs.Reservation.{has_range, same_range, with_range, without_range}
use Rattle.cfm_memory.specs.declared.hints.Hint.{Hint}
use Rattle.cfm_memory.specs.declared.place.Reserved.{Reserved}
use Rattle.cfm_memory.proofs.Fronts.{clear_at}
use Rattle.cfm_memory.proofs.Remembered.{hints_lowered, hints_stay, in_turn_from}

-- ranges in turn have addresses of 32 bits, and none is empty
in_turn_bound : (from : ℕ) (rs : List Reserved) → AreInTurn from rs → from ≤ 2 ^ 32
in_turn_bound from [] turn = turn
in_turn_bound from (r ∷ rs) turn = let h = in_turn_bound r.to rs turn.2 in omega (arith, h, turn.0, turn.1)

pub range_ends : (from k : ℕ) (rs : List Reserved) (d : Reserved) → k < length rs → AreInTurn from rs → (get_or rs k d).to ≤ 2 ^ 32
range_ends from k [] d under turn = absurd (omega arith)
range_ends from zero (r ∷ rs) d under turn = in_turn_bound r.to rs turn.2
range_ends from (suc k) (r ∷ rs) d under turn = range_ends r.to k rs d (omega arith) turn.2

pub range_some : (from k : ℕ) (rs : List Reserved) (d : Reserved) → k < length rs → AreInTurn from rs → (get_or rs k d).from < (get_or rs k d).to
range_some from k [] d under turn = absurd (omega arith)
range_some from zero (r ∷ rs) d under turn = turn.1
range_some from (suc k) (r ∷ rs) d under turn = range_some r.to k rs d (omega arith) turn.2

-- a later range ends after an earlier one
ends_after : (from k : ℕ) (rs : List Reserved) (d : Reserved) → k < length rs → AreInTurn from rs → from ≤ (get_or rs k d).to
ends_after from k [] d under turn = absurd (omega arith)
ends_after from zero (r ∷ rs) d under turn = omega (arith, turn.0, turn.1)
ends_after from (suc k) (r ∷ rs) d under turn = let h = ends_after r.to k rs d (omega (arith, under)) turn.2 in omega (arith, h, turn.0, turn.1)

pub ends_rise : (from : ℕ) (rs : List Reserved) → AreInTurn from rs → IsNonDecreasingBy (λ (r : Reserved). r.to) rs
ends_rise from [] turn = λ i j d low under. absurd (omega (arith, under))
ends_rise from (r ∷ rs) turn = at (ends_rise r.to rs turn.2)
  where
    at : IsNonDecreasingBy (λ (r : Reserved). r.to) rs → (i j : ℕ) (d : Reserved) → i ≤ j → j < length (r ∷ rs) → (get_or (r ∷ rs) i d).to ≤ (get_or (r ∷ rs) j d).to
    at rest zero zero d low under = omega arith
    at rest zero (suc j) d low under = ends_after r.to j rs d (omega (arith, under)) turn.2
    at rest (suc i) zero d low under = absurd (omega (arith, low))
    at rest (suc i) (suc j) d low under = rest i j d (omega (arith, low)) (omega (arith, under))

-- what ends before ranges in turn meets none of them
clear_ahead : (address end from : ℕ) (rs : List Reserved) → AreInTurn from rs → end ≤ from → IsClear address end rs
clear_ahead address end from [] turn before = tt
clear_ahead address end from (r ∷ rs) turn before = (inl (omega (arith, before, turn.0)), clear_ahead address end r.to rs turn.2 (omega (arith, before, turn.0, turn.1)))

-- nor what lies between those that were passed and the next one
pub clear_here : (address end from i : ℕ) (rs : List Reserved) (d : Reserved) → AreInTurn from rs → AllPassed address (take i rs) → (i < length rs → end ≤ (get_or rs i d).from) → IsClear address end rs
clear_here address end from i [] d turn passed ahead = tt
clear_here address end from zero (r ∷ rs) d turn passed ahead = let before = ahead (omega arith) in (inl before, clear_ahead address end r.to rs turn.2 (omega (arith, before, turn.1)))
clear_here address end from (suc i) (r ∷ rs) d turn passed ahead = (inr passed.0, clear_here address end r.to i rs d turn.2 passed.1 (λ under. ahead (omega (arith, under))))

pub passed_more : (a b : ℕ) (rs : List Reserved) → a ≤ b → AllPassed a rs → AllPassed b rs
passed_more a b [] low passed = tt
passed_more a b (r ∷ rs) low passed = (omega (arith, low, passed.0), passed_more a b rs low passed.1)

pub passed_next : (a i : ℕ) (rs : List Reserved) (d : Reserved) → i < length rs → AllPassed a (take i rs) → (get_or rs i d).to ≤ a → AllPassed a (take (suc i) rs)
passed_next a i [] d under passed ends = absurd (omega arith)
passed_next a zero (r ∷ rs) d under passed ends = (ends, tt)
passed_next a (suc i) (r ∷ rs) d under passed ends = (passed.0, passed_next a i rs d (omega arith) passed.1 ends)

-- no lower address is vacant
pub record IsLeast (g bytes step from : ℕ) (xs : List Instance) (rs : List Reserved) (address : ℕ) : Type 0 where
  pub low : from ≤ address
  pub aligned : address % step ≡ 0
  pub free : IsFree g address (address + bytes) xs
  pub first : (other : ℕ) → from ≤ other → other % step ≡ 0 → IsFree g other (other + bytes) xs → IsClear other (other + bytes) rs → address ≤ other

pub least_first : (g bytes step from address : ℕ) (xs : List Instance) (rs : List Reserved) → IsFirstFree g bytes step from xs address → IsLeast g bytes step from xs rs address
least_first g bytes step from address xs rs first = record {
  low = first.low;
  aligned = first.aligned;
  free = first.free;
  first = λ other low aligned free clear. first.first other low aligned free;
}

pub least_past : (g bytes step from address next k : ℕ) (xs : List Instance) (rs : List Reserved) (d : Reserved) → k < length rs → (get_or rs k d).from < address + bytes → address < (get_or rs k d).to
    → IsLeast g bytes step from xs rs address → IsFirstFree g bytes step (get_or rs k d).to xs next → IsLeast g bytes step from xs rs next
least_past g bytes step from address next k xs rs d under over short least first = record {
  low = (let h = least.low in let n = first.low in omega arith);
  aligned = first.aligned;
  free = first.free;
  first = λ other low aligned free clear.
      let h = least.first other low aligned free clear in
      first.first other (elim (clear_at other (other + bytes) k rs d under clear) as (λ _. (get_or rs k d).to ≤ other) [ inl e ↦ absurd (omega (arith, e, over, h)) | inr e ↦ e ]) aligned free;
}

pub least_vacant : (g bytes step from address : ℕ) (xs : List Instance) (rs : List Reserved) → IsLeast g bytes step from xs rs address → IsClear address (address + bytes) rs → IsFirstVacant g bytes step from xs rs address
least_vacant g bytes step from address xs rs least clear = record { low = least.low; aligned = least.aligned; free = least.free; clear = clear; first = least.first }

-- a range is inserted after those that end before it
pub insert_is : (from i : ℕ) (rs : List Reserved) (y d : Reserved) → y.from < y.to → i ≤ length rs → AreInTurn from rs → AllPassed y.from (take i rs) → (i < length rs → y.to ≤ (get_or rs i d).from) → insert rs i y ≡ with_range rs y
insert_is from zero [] y d some inside turn passed ahead = refl
insert_is from (suc i) [] y d some inside turn passed ahead = absurd (omega arith)
insert_is from zero (r ∷ rs) y d some inside turn passed ahead =
    let before = ahead (omega arith) in
    elim (leb_tells (suc r.from) y.from) [
      | inl below ↦ absurd (omega (arith, below.1, before, some))
      | inr above ↦ rw above.0 refl
    ]
insert_is from (suc i) (r ∷ rs) y d some inside turn passed ahead =
    elim (leb_tells (suc r.from) y.from) [
      | inl below ↦ rw below.0 (ap (λ (ys : List Reserved). r ∷ ys) (insert_is r.to i rs y d some (omega arith) turn.2 passed.1 (λ under. ahead (omega (arith, under)))))
      | inr above ↦ absurd (omega (arith, above.1, passed.0, turn.1))
    ]

-- with it the ranges are in turn
pub in_turn_with : (from : ℕ) (rs : List Reserved) (y : Reserved) → from ≤ y.from → y.from < y.to → y.to ≤ 2 ^ 32 → IsClear y.from y.to rs → AreInTurn from rs → AreInTurn from (with_range rs y)
in_turn_with from [] y low some high clear turn = (low, some, high)
in_turn_with from (r ∷ rs) y low some high clear turn =
    elim (leb_tells (suc r.from) y.from) [
      | inl below ↦ rw below.0 (
        turn.0,
        turn.1,
        in_turn_with r.to rs y (elim (clear.0) as (λ _. r.to ≤ y.from) [ inl h ↦ absurd (omega (arith, h, below.1, some)) | inr h ↦ h ]) some high clear.1 turn.2,
      )
      | inr above ↦ rw above.0 (
        low,
        some,
        (elim (clear.0) as (λ _. y.to ≤ r.from) [ inl h ↦ h | inr h ↦ absurd (omega (arith, h, above.1, turn.1)) ], turn.1, turn.2),
      )
    ]

clear_with_range : (address end : ℕ) (rs : List Reserved) (y : Reserved) → (end ≤ y.from) ⊎ (y.to ≤ address) → IsClear address end rs → IsClear address end (with_range rs y)
clear_with_range address end [] y apart clear = (apart, tt)
clear_with_range address end (r ∷ rs) y apart clear =
    elim (leb_tells (suc r.from) y.from) [
      | inl below ↦ rw below.0 (clear.0, clear_with_range address end rs y apart clear.1)
      | inr above ↦ rw above.0 (apart, clear)
    ]

clear_without_range : (address end : ℕ) (rs : List Reserved) (y : Reserved) → IsClear address end (with_range rs y) → IsClear address end rs
clear_without_range address end [] y clear = tt
clear_without_range address end (r ∷ rs) y clear =
    elim (leb_tells (suc r.from) y.from) [
      | inl below ↦ (let there = rw below.0 at clear in (there.0, clear_without_range address end rs y there.1))
      | inr above ↦ (let there = rw above.0 at clear in there.1)
    ]

-- no instance meets them
pub are_clear_with : (g : ℕ) (xs : List Instance) (rs : List Reserved) (y : Reserved) → IsFree g y.from y.to xs → AreClear g xs rs → AreClear g xs (with_range rs y)
are_clear_with g [] rs y free clear = tt
are_clear_with g (x ∷ xs) rs y free clear = (
  clear_with_range x.address (end_of g x) rs y (elim (free.0) as (λ _. (end_of g x ≤ y.from) ⊎ (y.to ≤ x.address)) [ inl h ↦ inr h | inr h ↦ inl h ]) clear.0,
  are_clear_with g xs rs y free.1 clear.1,
)

-- the invariant of a memory with one more range
pub reserved_kept : (g limit : ℕ) (hints : List Hint) (xs : List Instance) (rs : List Reserved) (y : Reserved) → y.from < y.to → y.to ≤ 2 ^ 32 → IsFree g y.from y.to xs → IsClear y.from y.to rs → IsKept g limit xs rs hints → IsKept g limit xs (with_range rs y) hints
reserved_kept g limit hints xs rs y some high free clear kept = record {
  laid_out = kept.laid_out;
  in_turn = in_turn_with 0 rs y (omega arith) some high clear kept.in_turn;
  clear = are_clear_with g xs rs y free kept.clear;
  are_hints = hints_stay g xs xs rs (with_range rs y) hints (λ from to free. free) (λ from to clear. clear_without_range from to rs y clear) kept.are_hints;
  small = kept.small;
}

-- the number of a range among some leads to it
pub number_found : (rs : List Reserved) (y : Reserved) (at i : ℕ) → range_number rs y at ≡ Some i → (k : ℕ) × (i ≡ at + k) × (k < length rs) × (has_range rs y ≡ true) × (remove rs k ≡ without_range rs y)
number_found [] y at i is = absurd (cc)
number_found (r ∷ rs) y at i is = by (same_range r y) refl is (number_found rs y (at + 1) i)
  where
    by : (b : Bool) → same_range r y ≡ b → cond b (Some at) (range_number rs y (at + 1)) ≡ Some i → (range_number rs y (at + 1) ≡ Some i → (k : ℕ) × (i ≡ at + 1 + k) × (k < length rs) × (has_range rs y ≡ true) × (remove rs k ≡ without_range rs y))
        → (k : ℕ) × (i ≡ at + k) × (k < suc (length rs)) × (cond (same_range r y) true (has_range rs y) ≡ true) × (remove (r ∷ rs) k ≡ cond (same_range r y) rs (r ∷ without_range rs y))
    by true same here later = rw same (zero, (let e : at ≡ i = same_Some at i here in omega (arith, e)), omega arith, refl, refl)
    by false same here later = let there = later here in rw same (suc there.0, omega (arith, there.1), omega (arith, there.2), there.3, ap (λ (ts : List Reserved). r ∷ ts) there.4)

pub number_none : (rs : List Reserved) (y : Reserved) (at : ℕ) → range_number rs y at ≡ None → has_range rs y ≡ false
number_none [] y at is = refl
number_none (r ∷ rs) y at is = by (same_range r y) refl is (number_none rs y (at + 1))
  where
    by : (b : Bool) → same_range r y ≡ b → cond b (Some at) (range_number rs y (at + 1)) ≡ None → (range_number rs y (at + 1) ≡ None → has_range rs y ≡ false) → cond (same_range r y) true (has_range rs y) ≡ false
    by true same here later = absurd (cc)
    by false same here later = rw same (later here)

-- without it the ranges are in turn, and no instance meets them
in_turn_without : (from : ℕ) (rs : List Reserved) (y : Reserved) → AreInTurn from rs → AreInTurn from (without_range rs y)
in_turn_without from [] y turn = turn
in_turn_without from (r ∷ rs) y turn = by (same_range r y) (in_turn_without r.to rs y turn.2)
  where
    by : (b : Bool) → AreInTurn r.to (without_range rs y) → AreInTurn from (cond b rs (r ∷ without_range rs y))
    by true later = in_turn_from r.to from rs (omega (arith, turn.0, turn.1)) turn.2
    by false later = (turn.0, turn.1, later)

clear_without_one : (address end : ℕ) (rs : List Reserved) (y : Reserved) → IsClear address end rs → IsClear address end (without_range rs y)
clear_without_one address end [] y clear = tt
clear_without_one address end (r ∷ rs) y clear = by (same_range r y) (clear_without_one address end rs y clear.1)
  where
    by : (b : Bool) → IsClear address end (without_range rs y) → IsClear address end (cond b rs (r ∷ without_range rs y))
    by true later = clear.1
    by false later = (clear.0, later)

are_clear_without : (g : ℕ) (xs : List Instance) (rs : List Reserved) (y : Reserved) → AreClear g xs rs → AreClear g xs (without_range rs y)
are_clear_without g [] rs y clear = tt
are_clear_without g (x ∷ xs) rs y clear = (clear_without_one x.address (end_of g x) rs y clear.0, are_clear_without g xs rs y clear.1)

same_from : (r y : Reserved) → same_range r y ≡ true → r.from ≡ y.from
same_from r y same = elim (eqb_tells r.from y.from) [ inl h ↦ h.1 | inr h ↦ (let other : false ≡ true = rw h.0 at same in absurd (cc)) ]

-- what ends before it and meets no other meets none
clear_before : (address end : ℕ) (rs : List Reserved) (y : Reserved) → end ≤ y.from → IsClear address end (without_range rs y) → IsClear address end rs
clear_before address end [] y before clear = tt
clear_before address end (r ∷ rs) y before clear = by (same_range r y) refl clear (clear_before address end rs y before)
  where
    by : (b : Bool) → same_range r y ≡ b → IsClear address end (cond b rs (r ∷ without_range rs y)) → (IsClear address end (without_range rs y) → IsClear address end rs) → IsClear address end (r ∷ rs)
    by true same here later = (let e = same_from r y same in inl (omega (arith, before, e)), here)
    by false same here later = (here.0, later here.1)

-- the invariant of a memory with one range less
pub unreserved_kept : (g limit : ℕ) (hints lower : List Hint) (xs : List Instance) (rs : List Reserved) (y : Reserved) → length lower ≡ length hints → AreLowered y.from hints lower → IsKept g limit xs rs hints → IsKept g limit xs (without_range rs y) lower
unreserved_kept g limit hints lower xs rs y same are_lowered kept = record {
  laid_out = kept.laid_out;
  in_turn = in_turn_without 0 rs y kept.in_turn;
  clear = are_clear_without g xs rs y kept.clear;
  are_hints = hints_lowered g y.from xs xs rs (without_range rs y) hints lower same are_lowered (λ other end ends free. free) (λ other end ends clear. clear_before other end rs y ends clear) kept.are_hints;
  small = kept.small;
}
