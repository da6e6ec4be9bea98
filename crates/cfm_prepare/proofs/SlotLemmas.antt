-- Fragments in slots by their places in the store, in the order in which they were placed.
use Rattle.std.proofs.Common.{◌≡◌, ◌≢◌, ◌==◌, ◌<◌, ℕ, zero, suc, Bool, true, false, List, [], ◌∷◌, ◌++◌, Option, None, Some, cond, length, refl, sym, ap, ap₂, subst, ◌∙◌, inl, inr}
use Rattle.std.specs.Borrow.{Bor}
use Rattle.std.specs.Option.{is_some, option_copied}
use Rattle.std.proofs.Math.ListN.{set}
use Rattle.std.proofs.lemmas.Bool.Decides.{eqb_tells}
use Rattle.std.proofs.lemmas.List.{get_or-set_other, get_or-set_same, map-append}
use Rattle.cfm_prepare.specs.Fragments.{IsTaken, Present, is_present, places_of}
use Rattle.cfm_prepare.specs.Lists.{IsOnce, has}
use Rattle.cfm_prepare.specs.Kept.Slots.{AreSlots, IsRemoved, in_slot, in_slots, slot_at, slot_places}
use Rattle.cfm_prepare.specs.declared.slots.Placed.{Placed}
use Rattle.cfm_prepare.proofs.ListLemmas.{has-first, has-later}

-- fragments after others
pub present-append : (xs ys : List Present) (p : ℕ) → is_present (xs ++ ys) p ≡ cond (is_present xs p) true (is_present ys p)
present-append [] ys p = refl
present-append (x ∷ xs) ys p = go (x.position == p) (present-append xs ys p)
  where
    go : (b : Bool) → is_present (xs ++ ys) p ≡ cond (is_present xs p) true (is_present ys p) → cond b true (is_present (xs ++ ys) p) ≡ cond (cond b true (is_present xs p)) true (is_present ys p)
    go true same = refl
    go false same = same

pub places-append : (xs ys : List Present) (p : ℕ) → places_of (xs ++ ys) p ≡ cond (is_present xs p) (places_of xs p) (places_of ys p)
places-append [] ys p = refl
places-append (x ∷ xs) ys p = go (x.position == p) (places-append xs ys p)
  where
    go : (b : Bool) → places_of (xs ++ ys) p ≡ cond (is_present xs p) (places_of xs p) (places_of ys p)
        → cond b x.places (places_of (xs ++ ys) p) ≡ cond (cond b true (is_present xs p)) (cond b x.places (places_of xs p)) (places_of ys p)
    go true same = refl
    go false same = same

-- numbers after others
has-append : (ps qs : List ℕ) (p : ℕ) → has (ps ++ qs) p ≡ cond (has ps p) true (has qs p)
has-append [] qs p = refl
has-append (q ∷ ps) qs p = go (q == p) (has-append ps qs p)
  where
    go : (b : Bool) → has (ps ++ qs) p ≡ cond (has ps p) true (has qs p) → cond b true (has (ps ++ qs) p) ≡ cond (cond b true (has ps p)) true (has qs p)
    go true same = refl
    go false same = same

once-last : (ps : List ℕ) (p : ℕ) → IsOnce ps → has ps p ≡ false → IsOnce (ps ++ p ∷ [])
once-last [] p once absent = (refl, tt)
once-last (q ∷ ps) p once absent = elim (eqb_tells q p) [
  | inl same ↦ (let wrong : true ≡ false = rw same.0 at absent in absurd (cc))
  | inr other ↦ (
      let later : has ps p ≡ false = rw other.0 at absent in
      let only : has (p ∷ []) q ≡ false = elim (eqb_tells p q) [ inl same ↦ absurd (other.1 (sym same.1)) | inr apart ↦ rw apart.0 refl ] in
      (has-append ps (p ∷ []) q ∙ ap₂ (λ a b. cond a true b) once.0 only, once-last ps p once.1 later))
]

-- a number between others
swapped : (a b c : Bool) → cond a true (cond b true c) ≡ cond b true (cond a true c)
swapped true true c = refl
swapped true false c = refl
swapped false b c = refl

has-between : (front back : List ℕ) (p q : ℕ) → has (front ++ p ∷ back) q ≡ cond (p == q) true (has (front ++ back) q)
has-between [] back p q = refl
has-between (r ∷ front) back p q = ap (λ b. cond (r == q) true b) (has-between front back p q) ∙ swapped (r == q) (p == q) (has (front ++ back) q)

-- a number that was between others once isn't among them
record IsOut (p : ℕ) (ps : List ℕ) : Type 0 where
  pub gone : has ps p ≡ false
  pub once : IsOnce ps

once-without : (front back : List ℕ) (p : ℕ) → IsOnce (front ++ p ∷ back) → IsOut p (front ++ back)
once-without [] back p once = record { gone = once.0; once = once.1 }
once-without (q ∷ front) back p once =
    let rest = once-without front back p once.1 in
    let between : cond (p == q) true (has (front ++ back) q) ≡ false = sym (has-between front back p q) ∙ once.0 in
    elim (eqb_tells p q) [
      | inl same ↦ (let wrong : true ≡ false = rw same.0 at between in absurd (cc))
      | inr other ↦ (
          let none : has (front ++ back) q ≡ false = rw other.0 at between in
          record {
            gone = elim (eqb_tells q p) [ inl same ↦ absurd (other.1 (sym same.1)) | inr apart ↦ rw apart.0 rest.gone ];
            once = (none, rest.once);
          })
    ]

-- the fragments of some places are of these
pub seen-present : (slots : List (Option Placed)) (order : List ℕ) (p : ℕ) → is_present (in_slots slots order) p ≡ has order p
seen-present slots [] p = refl
seen-present slots (q ∷ order) p = ap (λ b. cond (q == p) true b) (seen-present slots order p)

seen-places : (slots : List (Option Placed)) (order : List ℕ) (p : ℕ) → places_of (in_slots slots order) p ≡ cond (has order p) (slot_places (slot_at slots p)) []
seen-places slots [] p = refl
seen-places slots (q ∷ order) p = elim (eqb_tells q p) [
  | inl same ↦ rw same.0 (ap (λ r. slot_places (slot_at slots r)) same.1)
  | inr other ↦ rw other.0 (seen-places slots order p)
]

some-places : (s : Option Placed) → cond (is_some s) (slot_places s) [] ≡ slot_places s
some-places None = refl
some-places (Some f) = refl

pub kept-present : (slots : List (Option Placed)) (order : List ℕ) (p : ℕ) → AreSlots slots order → is_present (in_slots slots order) p ≡ is_some (slot_at slots p)
kept-present slots order p are = seen-present slots order p ∙ are.listed p

pub kept-places : (slots : List (Option Placed)) (order : List ℕ) (p : ℕ) → AreSlots slots order → places_of (in_slots slots order) p ≡ slot_places (slot_at slots p)
kept-places slots order p are =
    let s = slot_at slots p in
    seen-places slots order p ∙ ap (λ b. cond b (slot_places s) []) (are.listed p) ∙ some-places s

-- other slots with the same in these places
pub seen-same : (slots slots' : List (Option Placed)) (order : List ℕ) → ((p : ℕ) → has order p ≡ true → slot_at slots p ≡ slot_at slots' p) → in_slots slots order ≡ in_slots slots' order
seen-same slots slots' [] same = refl
seen-same slots slots' (q ∷ order) same =
    let here : in_slot slots q ≡ in_slot slots' q = ap (λ s. record { position = q; places = slot_places s }) (same q (has-first q order)) in
    ap₂ (λ x (xs : List Present). x ∷ xs) here (seen-same slots slots' order (λ p there. same p (has-later q order p there)))

-- a place that isn't among some is none of them
apart : (order : List ℕ) (p q : ℕ) → has order p ≡ false → has order q ≡ true → q ≢ p
apart order p q absent there same = let wrong : true ≡ false = sym there ∙ ap (has order) same ∙ absent in absurd (cc)

slot-other : (slots : List (Option Placed)) (order : List ℕ) (p q : ℕ) (v : Option Placed) → has order p ≡ false → has order q ≡ true → slot_at (set slots p v) q ≡ slot_at slots q
slot-other slots order p q v absent there = get_or-set_other slots p q v None (apart order p q absent there)

not_either : (b : Bool) → cond b true false ≡ b
not_either true = refl
not_either false = refl

module _ (slots : List (Option Placed)) (order : List ℕ) (p : ℕ) (f : Placed) (are : AreSlots slots order) (under : p < length slots) where
  -- a fragment is put after the others
  module _ (absent : has order p ≡ false) where
    pub put-last : in_slots (set slots p (Some f)) (order ++ p ∷ []) ≡ in_slots slots order ++ (record { position = p; places = f.places.items }) ∷ []
    put-last =
        let others = seen-same (set slots p (Some f)) slots order (λ q there. slot-other slots order p q (Some f) absent there) in
        let own : in_slot (set slots p (Some f)) p ≡ record { position = p; places = f.places.items } = ap (λ s. record { position = p; places = slot_places s }) (get_or-set_same slots p (Some f) None under) in
        map-append (in_slot (set slots p (Some f))) order (p ∷ []) ∙ ap₂ (λ (xs ys : List Present). xs ++ ys) others (ap (λ x. x ∷ []) own)

    pub put-slots : AreSlots (set slots p (Some f)) (order ++ p ∷ [])
    put-slots = record {
      once = once-last order p are.once absent;
      listed = λ q. has-append order (p ∷ []) q ∙ listed q;
    }
      where
        all : (b : Bool) → cond b true true ≡ true
        all true = refl
        all false = refl

        listed : (q : ℕ) → cond (has order q) true (has (p ∷ []) q) ≡ is_some (slot_at (set slots p (Some f)) q)
        listed q = elim (eqb_tells p q) [
          | inl same ↦ (let P : ℕ → Type 0 = λ q. is_some (slot_at (set slots p (Some f)) q) ≡ true in
              rw same.0 (all (has order q) ∙ sym (subst P same.1 (ap is_some (get_or-set_same slots p (Some f) None under)))))
          | inr other ↦ rw other.0 (not_either (has order q) ∙ are.listed q ∙ ap is_some (sym (get_or-set_other slots p q (Some f) None (λ e. absurd (other.1 (sym e))))))
        ]

  -- a fragment is removed from between the others
  module _ (now : List ℕ) (removed : IsRemoved order now p) where
    out : IsOut p (removed.front ++ removed.back)
    out = once-without removed.front removed.back p (subst IsOnce removed.was are.once)

    pub taken-out : slot_at slots p ≡ Some f → IsTaken (in_slots slots order) (in_slots (set slots p None) now) p f.places.items
    taken-out here =
        let front = in_slots slots removed.front in
        let back = in_slots slots removed.back in
        let own : in_slot slots p ≡ record { position = p; places = f.places.items } = ap (λ s. record { position = p; places = slot_places s }) here in
        record {
          front = front;
          back = back;
          was = ap (in_slots slots) removed.was ∙ map-append (in_slot slots) removed.front (p ∷ removed.back) ∙ ap (λ x. front ++ x ∷ back) own;
          is = ap (in_slots (set slots p None)) removed.is
              ∙ seen-same (set slots p None) slots (removed.front ++ removed.back) (λ q there. slot-other slots (removed.front ++ removed.back) p q None out.gone there)
              ∙ map-append (in_slot slots) removed.front removed.back;
          gone = seen-present (set slots p None) now p ∙ ap (λ qs. has qs p) removed.is ∙ out.gone;
        }

    pub taken-slots : AreSlots (set slots p None) now
    taken-slots = record {
      once = subst IsOnce (sym removed.is) out.once;
      listed = λ q. ap (λ qs. has qs q) removed.is ∙ listed q;
    }
      where
        listed : (q : ℕ) → has (removed.front ++ removed.back) q ≡ is_some (slot_at (set slots p None) q)
        listed q = elim (eqb_tells p q) [
          | inl same ↦ (let P : ℕ → Type 0 = λ q. has (removed.front ++ removed.back) q ≡ is_some (slot_at (set slots p None) q) in
              subst P same.1 (out.gone ∙ sym (ap is_some (get_or-set_same slots p None None under))))
          | inr other ↦ (
              let between : has order q ≡ has (removed.front ++ removed.back) q = ap (λ qs. has qs q) removed.was ∙ has-between removed.front removed.back p q ∙ ap (λ b. cond b true (has (removed.front ++ removed.back) q)) other.0 in
              sym between ∙ are.listed q ∙ ap is_some (sym (get_or-set_other slots p q None None (λ e. absurd (other.1 (sym e))))))
        ]

-- one slot more, with nothing in it
pub slot-grown : (slots : List (Option Placed)) (p : ℕ) → slot_at (slots ++ None ∷ []) p ≡ slot_at slots p
slot-grown [] zero = refl
slot-grown [] (suc p) = refl
slot-grown (s ∷ slots) zero = refl
slot-grown (s ∷ slots) (suc p) = slot-grown slots p

-- an empty slot stays so
pub slot-emptied : (slots : List (Option Placed)) (p q : ℕ) → slot_at slots p ≡ None → p < length slots → slot_at (set slots p None) q ≡ slot_at slots q
slot-emptied slots p q none under = elim (eqb_tells q p) [
  | inl same ↦ (let P : ℕ → Type 0 = λ q. slot_at (set slots p None) q ≡ slot_at slots q in subst P (sym same.1) (get_or-set_same slots p None None under ∙ sym none))
  | inr other ↦ get_or-set_other slots p q None None (λ e. absurd (other.1 e))
]

-- a slot that is seen through a reference
pub seen-some : (r : Option (Bor Placed)) → is_some r ≡ is_some (option_copied r)
seen-some None = refl
seen-some (Some x) = refl
