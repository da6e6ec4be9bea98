-- Open connections, which are kept in slots in the order of their numbers.
use Rattle.std.proofs.Common.{ltb, ap₂, Bool, true, false, cond, filter, ◌≢◌, ◌≡◌, ◌+◌, ◌<◌, ◌≤◌, ℕ, zero, suc, List, [], ◌∷◌, ◌++◌, Option, None, Some, length, refl, sym, ap, ◌∙◌, inl, inr, arith}
use Rattle.std.specs.Option.{is_some}
use Rattle.std.proofs.Math.ListN.{set}
use Rattle.std.proofs.lemmas.Bool.Decides.{eqb_tells, leb_tells}
use Rattle.std.proofs.lemmas.List.Sorted.{IsNonDecreasingBy-from_default}
use Rattle.std.specs.List.Sorted.{IsNonDecreasingBy, IsPartitionPoint}
use Rattle.std.proofs.Common.{drop, subst, ◌⊎◌}
use Rattle.std.proofs.lemmas.List.{at_drop_more, drop_all}
use Rattle.cfm_closure.specs.Additions.{NamesLibrary}
use Rattle.cfm_prepare.specs.Steps.{AnyNames}
use Rattle.cfm_prepare.specs.Contexts.{Open, open_of, open_without}
use Rattle.cfm_prepare.specs.Kept.Connections.{AreNumbered, HasNumber, IsSlotOf, open_and, open_in, slot_of}
use Rattle.cfm_prepare.specs.declared.connections.Slot.{Slot}

-- an element of the slots is skipped, if it has another number
skip-of : (c : Option Open) (os : List Open) (k number : ℕ) → HasNumber c k → k ≢ number → open_of (open_and c os) number ≡ open_of os number
skip-of None os k number has apart = refl
skip-of (Some o) os k number has apart = elim (eqb_tells o.number number) [ inl same ↦ absurd (apart (sym has ∙ same.1)) | inr other ↦ rw other.0 refl ]

skip-without : (c : Option Open) (os : List Open) (k number : ℕ) → HasNumber c k → k ≢ number → open_without (open_and c os) number ≡ open_and c (open_without os number)
skip-without None os k number has apart = refl
skip-without (Some o) os k number has apart = elim (eqb_tells o.number number) [ inl same ↦ absurd (apart (sym has ∙ same.1)) | inr other ↦ rw other.0 refl ]

-- or it is the one
here-of : (c : Option Open) (os : List Open) (number : ℕ) → HasNumber c number → open_of os number ≡ None → open_of (open_and c os) number ≡ c
here-of None os number has none = none
here-of (Some o) os number has none = elim (eqb_tells o.number number) [ inl same ↦ rw same.0 refl | inr other ↦ absurd (other.1 has) ]

here-without : (c : Option Open) (os : List Open) (number : ℕ) → HasNumber c number → open_without os number ≡ os → open_without (open_and c os) number ≡ os
here-without None os number has same = same
here-without (Some o) os number has same = elim (eqb_tells o.number number) [ inl is ↦ rw is.0 refl | inr other ↦ absurd (other.1 has) ]

-- no connection has a number below that of the first slot
pub none-before : (slots : List Slot) (from given number : ℕ) → number < from → AreNumbered from given slots → open_of (open_in slots) number ≡ None
none-before [] from given number before at = refl
none-before (s ∷ slots) from given number before at =
    skip-of s.connected (open_in slots) s.number number at.1 (λ same. omega (arith, same, at.0, before))
    ∙ none-before slots (s.number + 1) given number (omega (arith, at.0, before)) at.2

pub same-before : (slots : List Slot) (from given number : ℕ) → number < from → AreNumbered from given slots → open_without (open_in slots) number ≡ open_in slots
same-before [] from given number before at = refl
same-before (s ∷ slots) from given number before at =
    skip-without s.connected (open_in slots) s.number number at.1 (λ same. omega (arith, same, at.0, before))
    ∙ ap (open_and s.connected) (same-before slots (s.number + 1) given number (omega (arith, at.0, before)) at.2)

-- numbers rise
number-from : (slots : List Slot) (from given k : ℕ) → k < length slots → AreNumbered from given slots → from ≤ (slot_of slots k).number
number-from [] from given k under at = absurd (omega (arith, under))
number-from (s ∷ slots) from given zero under at = at.0
number-from (s ∷ slots) from given (suc k) under at = let later = number-from slots (s.number + 1) given k (omega (arith, under)) at.2 in omega (arith, later, at.0)

pub numbers-rise : (slots : List Slot) (from given i j : ℕ) → i ≤ j → j < length slots → AreNumbered from given slots → (slot_of slots i).number ≤ (slot_of slots j).number
numbers-rise [] from given i j low under at = absurd (omega (arith, under))
numbers-rise (s ∷ slots) from given zero zero low under at = omega arith
numbers-rise (s ∷ slots) from given zero (suc j) low under at = let later = number-from slots (s.number + 1) given j (omega (arith, under)) at.2 in omega (arith, later)
numbers-rise (s ∷ slots) from given (suc i) zero low under at = absurd (omega (arith, low))
numbers-rise (s ∷ slots) from given (suc i) (suc j) low under at = numbers-rise slots (s.number + 1) given i j (omega (arith, low)) (omega (arith, under)) at.2

-- a connection is found in the slot of its number
pub found-is : (slots : List Slot) (from given number k : ℕ) → AreNumbered from given slots → IsSlotOf slots number k → open_of (open_in slots) number ≡ (slot_of slots k).connected
found-is [] from given number k at is = absurd (omega (arith, is.0))
found-is (s ∷ slots) from given number zero at is =
    let later = none-before slots (s.number + 1) given number (omega (arith, is.1)) at.2 in
    here-of s.connected (open_in slots) number (subst (HasNumber s.connected) is.1 at.1) later
found-is (s ∷ slots) from given number (suc k) at is =
    let above = number-from slots (s.number + 1) given k (omega (arith, is.0)) at.2 in
    skip-of s.connected (open_in slots) s.number number at.1 (λ same. omega (arith, same, above, is.1))
    ∙ found-is slots (s.number + 1) given number k at.2 (omega (arith, is.0), is.1)

-- one is removed
abbrev pub emptied : Slot → Slot
emptied s = record s { connected = None }

pub emptied-is : (slots : List Slot) (from given number k : ℕ) → AreNumbered from given slots → IsSlotOf slots number k → open_in (set slots k (emptied (slot_of slots k))) ≡ open_without (open_in slots) number
emptied-is [] from given number k at is = absurd (omega (arith, is.0))
emptied-is (s ∷ slots) from given number zero at is =
    sym (here-without s.connected (open_in slots) number (subst (HasNumber s.connected) is.1 at.1) (same-before slots (s.number + 1) given number (omega (arith, is.1)) at.2))
emptied-is (s ∷ slots) from given number (suc k) at is =
    let above = number-from slots (s.number + 1) given k (omega (arith, is.0)) at.2 in
    ap (open_and s.connected) (emptied-is slots (s.number + 1) given number k at.2 (omega (arith, is.0), is.1))
    ∙ sym (skip-without s.connected (open_in slots) s.number number at.1 (λ same. omega (arith, same, above, is.1)))

-- the others stay at their numbers
pub emptied-at : (slots : List Slot) (from given k : ℕ) → k < length slots → AreNumbered from given slots → AreNumbered from given (set slots k (emptied (slot_of slots k)))
emptied-at [] from given k under at = at
emptied-at (s ∷ slots) from given zero under at = (at.0, tt, at.2)
emptied-at (s ∷ slots) from given (suc k) under at = (at.0, at.1, emptied-at slots (s.number + 1) given k (omega (arith, under)) at.2)

-- one is put after the others
pub pushed-is : (slots : List Slot) (number : ℕ) (o : Open) → open_in (slots ++ (record { number = number; connected = Some o }) ∷ []) ≡ open_in slots ++ o ∷ []
pushed-is [] number o = refl
pushed-is (s ∷ slots) number o = ap (open_and s.connected) (pushed-is slots number o) ∙ after s.connected (open_in slots)
  where
    after : (c : Option Open) (os : List Open) → open_and c (os ++ o ∷ []) ≡ open_and c os ++ o ∷ []
    after None os = refl
    after (Some x) os = refl

pub pushed-at : (slots : List Slot) (from given : ℕ) (o : Open) → AreNumbered from given slots → o.number ≡ given → AreNumbered from (given + 1) (slots ++ (record { number = given; connected = Some o }) ∷ [])
pushed-at [] from given o at is = (at, is, omega arith)
pushed-at (s ∷ slots) from given o at is = (at.0, at.1, pushed-at slots (s.number + 1) given o at.2 is)

-- slots of closed ones are dropped
abbrev pub is_used_slot : Slot → Bool
is_used_slot s = is_some s.connected

lower-from : (slots : List Slot) (from lower given : ℕ) → lower ≤ from → AreNumbered from given slots → AreNumbered lower given slots
lower-from [] from lower given low at = omega (arith, low, at)
lower-from (s ∷ slots) from lower given low at = (omega (arith, low, at.0), at.1, at.2)

pub dropped-is : (slots : List Slot) → open_in (filter is_used_slot slots) ≡ open_in slots
dropped-is [] = refl
dropped-is (s ∷ slots) = by s.connected refl (dropped-is slots)
  where
    by : (c : Option Open) → s.connected ≡ c → open_in (filter is_used_slot slots) ≡ open_in slots → open_in (cond (is_some c) (s ∷ filter is_used_slot slots) (filter is_used_slot slots)) ≡ open_and c (open_in slots)
    by None is later = later
    by (Some o) is later = ap₂ open_and is later

pub dropped-at : (slots : List Slot) (from given : ℕ) → AreNumbered from given slots → AreNumbered from given (filter is_used_slot slots)
dropped-at [] from given at = at
dropped-at (s ∷ slots) from given at = by (is_some s.connected) (dropped-at slots (s.number + 1) given at.2)
  where
    by : (b : Bool) → AreNumbered (s.number + 1) given (filter is_used_slot slots) → AreNumbered from given (cond b (s ∷ filter is_used_slot slots) (filter is_used_slot slots))
    by true later = (at.0, at.1, later)
    by false later = lower-from (filter is_used_slot slots) (s.number + 1) from given (omega (arith, at.0)) later

-- no slot has a number, if those before a place have lower ones and the one there has a higher one
pub none-at : (slots : List Slot) (from given number k : ℕ) → AreNumbered from given slots → ((i : ℕ) → i < k → i < length slots → (slot_of slots i).number < number) → (k < length slots → number < (slot_of slots k).number)
    → (open_of (open_in slots) number ≡ None) × (open_without (open_in slots) number ≡ open_in slots)
none-at [] from given number k at below above = (refl, refl)
none-at (s ∷ slots) from given number zero at below above =
    let high : number < s.number = above (omega arith) in
    let rest : AreNumbered s.number given (s ∷ slots) = (omega arith, at.1, at.2) in
    (none-before (s ∷ slots) s.number given number high rest, same-before (s ∷ slots) s.number given number high rest)
none-at (s ∷ slots) from given number (suc k) at below above =
    let low : s.number < number = below 0 (omega arith) (omega arith) in
    let later = none-at slots (s.number + 1) given number k at.2 (λ i less under. below (suc i) (omega (arith, less)) (omega (arith, under))) (λ under. above (omega (arith, under))) in (
      skip-of s.connected (open_in slots) s.number number at.1 (λ same. omega (arith, same, low)) ∙ later.0,
      skip-without s.connected (open_in slots) s.number number at.1 (λ same. omega (arith, same, low)) ∙ ap (open_and s.connected) later.1,
    )

-- there are no more than before
pub fewer-without : (os : List Open) (number : ℕ) → length (open_without os number) ≤ length os
fewer-without [] number = omega arith
fewer-without (o ∷ os) number = elim (eqb_tells o.number number) [
  | inl same ↦ rw same.0 (omega arith)
  | inr other ↦ (let more = fewer-without os number in rw other.0 (omega (arith, more)))
]

-- all open connections whose closures name a library are in the slots from one on
pub record NamesFrom (slots : List Slot) (i : ℕ) (name : List ℕ) : Type 0 where
  pub there : AnyNames (open_in (drop i slots)) name → AnyNames (open_in slots) name
  pub all : AnyNames (open_in slots) name → AnyNames (open_in (drop i slots)) name

pub names-start : (slots : List Slot) (name : List ℕ) → NamesFrom slots 0 name
names-start slots name = record { there = λ any. any; all = λ any. any }

module _ (slots : List Slot) (i : ℕ) (name : List ℕ) (under : i < length slots) (from : NamesFrom slots i name) where
  step : (c : Option Open) → (slot_of slots i).connected ≡ c → open_in (drop i slots) ≡ open_and c (open_in (drop (i + 1) slots))
  step c is = at_drop_more open_in slots i (record { number = 0; connected = None }) under ∙ ap (λ c. open_and c (open_in (drop (i + 1) slots))) is

  pub names-here : (o : Open) → (slot_of slots i).connected ≡ Some o → NamesLibrary o.closed.pairs o.closed.order name → AnyNames (open_in slots) name
  names-here o is names = from.there (subst (λ os. AnyNames os name) (sym (step (Some o) is)) (inl names))

  pub names-empty : (slot_of slots i).connected ≡ None → NamesFrom slots (i + 1) name
  names-empty is = record {
    there = λ any. from.there (subst (λ os. AnyNames os name) (sym (step None is)) any);
    all = λ any. subst (λ os. AnyNames os name) (step None is) (from.all any);
  }

  pub names-other : (o : Open) → (slot_of slots i).connected ≡ Some o → (NamesLibrary o.closed.pairs o.closed.order name → ⊥) → NamesFrom slots (i + 1) name
  names-other o is not_here = record {
    there = λ any. from.there (subst (λ os. AnyNames os name) (sym (step (Some o) is)) (inr any));
    all = λ any. later (subst (λ os. AnyNames os name) (step (Some o) is) (from.all any));
  }
    where
      later : NamesLibrary o.closed.pairs o.closed.order name ⊎ AnyNames (open_in (drop (i + 1) slots)) name → AnyNames (open_in (drop (i + 1) slots)) name
      later (inl here) = absurd (not_here here)
      later (inr any) = any

pub names-end : (slots : List Slot) (i : ℕ) (name : List ℕ) → length slots ≤ i → NamesFrom slots i name → AnyNames (open_in slots) name → ⊥
names-end slots i name past from any = subst (λ (xs : List Slot). AnyNames (open_in xs) name) (drop_all i slots past) (from.all any)

-- what the search for a number's place says
pub below-rank : (slots : List Slot) (number rank : ℕ) → IsPartitionPoint (λ (s : Slot). ltb s.number number ≡ true) (λ (s : Slot). ltb s.number number ≡ false) slots rank → (i : ℕ) → i < rank → (slot_of slots i).number < number
below-rank slots number rank point i under =
    let is : ltb (slot_of slots i).number number ≡ true = point.0 i (record { number = 0; connected = None }) (omega arith) under in
    elim (leb_tells (suc (slot_of slots i).number) number) [ inl h ↦ h.1 | inr h ↦ (let other = h.0 in absurd (cc)) ]

pub at-rank : (slots : List Slot) (number rank : ℕ) → IsPartitionPoint (λ (s : Slot). ltb s.number number ≡ true) (λ (s : Slot). ltb s.number number ≡ false) slots rank → rank < length slots → number ≤ (slot_of slots rank).number
at-rank slots number rank point under =
    let is : ltb (slot_of slots rank).number number ≡ false = point.1 rank (record { number = 0; connected = None }) (omega arith) under in
    elim (leb_tells (suc (slot_of slots rank).number) number) [ inl h ↦ (let other = h.0 in absurd (cc)) | inr h ↦ omega (arith, h.1) ]

pub rising : (slots : List Slot) (given : ℕ) → AreNumbered 0 given slots → IsNonDecreasingBy (λ (s : Slot). s.number) slots
rising slots given at = IsNonDecreasingBy-from_default (λ (s : Slot). s.number) slots (record { number = 0; connected = None }) (λ i j low under. numbers-rise slots 0 given i j low under at)

-- so if the slot at that place has another number, none has this one
pub no-rank : (slots : List Slot) (given number rank : ℕ) → AreNumbered 0 given slots → IsPartitionPoint (λ (s : Slot). ltb s.number number ≡ true) (λ (s : Slot). ltb s.number number ≡ false) slots rank → (rank < length slots → (slot_of slots rank).number ≢ number)
    → (open_of (open_in slots) number ≡ None) × (open_without (open_in slots) number ≡ open_in slots)
no-rank slots given number rank at point other = none-at slots 0 given number rank at (λ i less under. below-rank slots number rank point i less) (λ under. let low = at-rank slots number rank point under in omega (arith, low, other under))
