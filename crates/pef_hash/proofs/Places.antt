-- Which word is at which place of the order, and which places a slot has.
use Rattle.std.proofs.Common.{◌≡◌, ◌≢◌, ℕ, zero, suc, ◌+◌, ◌-◌, ◌<◌, ◌≤◌, ◌⊎◌, inl, inr, List, [], ◌∷◌, length, get_or, drop, refl, sym, ◌∙◌, ap, arith, length-append, drop-cons, eq-eqb, true, false}
use Rattle.std.specs.Prelude.{nat_eq as eqb}
use Rattle.std.proofs.Math.ListN.{get_or-append}
use Rattle.std.proofs.Math.Seq.{get_or-append_right}
use Rattle.std.proofs.lemmas.Bool.Decides.{eqb_tells, leb_tells}
use Rattle.std.proofs.lemmas.List.{get_or-append-add}
use Rattle.pef_hash.specs.Word.{slot}
use Rattle.pef_hash.specs.Build.{count_before, count_in, in_slot, in_slots, slot_words}
use Rattle.pef_hash.specs.Exports.{slot_word}
use Rattle.pef_hash.proofs.SlotLists.{at_drop, drop_after}

-- a place that a slot lists is that of a word in the slot
pub record IsInSlot (power s from j : ℕ) (all : List ℕ) : Type 0 where
  pub low : from ≤ j
  pub high : j < length all
  pub here : slot (get_or all j 0) power ≡ s

-- a place further on is one from here on too
lower : (power s from j : ℕ) (all : List ℕ) → IsInSlot power s (from + 1) j all → IsInSlot power s from j all
lower power s from j all is = record { low = let low = is.low in omega arith; high = is.high; here = is.here }

-- if something is left, the end isn't reached
below_end : (xs rest : List ℕ) (x i : ℕ) → drop i xs ≡ x ∷ rest → i < length xs
below_end [] rest x zero is = absurd (cc)
below_end [] rest x (suc i) is = absurd (cc)
below_end (y ∷ xs) rest x zero is = omega arith
below_end (y ∷ xs) rest x (suc i) is = let later = below_end xs rest x i is in omega arith

-- the first place, or one of the others
member_first : (power s from k : ℕ) (w : ℕ) (all others : List ℕ) → from < length all → slot (get_or all from 0) power ≡ s → k < suc (length others)
    → ((n : ℕ) → n < length others → IsInSlot power s (from + 1) (get_or others n 0) all) → IsInSlot power s from (get_or (from ∷ others) k 0) all
member_first power s from zero w all others inside here under later = record { low = omega arith; high = inside; here = here }
member_first power s from (suc k) w all others inside here under later = lower power s from _ all (later k (omega arith))

pub in_slot-member : (power s from k : ℕ) (all words : List ℕ) → drop from all ≡ words → k < length (in_slot power s from words) → IsInSlot power s from (get_or (in_slot power s from words) k 0) all
in_slot-member power s from k all [] is under = absurd (omega arith)
in_slot-member power s from k all (w ∷ words) is under =
    let at = at_drop all words w from is in
    let next = drop_after all words w from is in
    let inside = below_end all words w from is in
    elim (eqb_tells (slot w power) s) [
      | inl same ↦ rw same.0 (member_first power s from k w all (in_slot power s (from + 1) words) inside (rw at same.1) (rw same.0 at under) (λ n less. in_slot-member power s (from + 1) n all words next less))
      | inr other ↦ rw other.0 (lower power s from _ all (in_slot-member power s (from + 1) k all words next (rw other.0 at under)))
    ]

-- the slot of place i of an order: slot t, after the words of the slots before it
pub record IsLocated (power s n i : ℕ) (words : List ℕ) : Type 0 where
  pub k : ℕ
  pub t : ℕ
  pub t_is : t ≡ s + k
  pub under : k < n
  pub low : count_before power words s k ≤ i
  pub high : i < count_before power words s k + count_in power words t
  pub is : get_or (in_slots power words s n) i 0 ≡ get_or (in_slot power t 0 words) (i - count_before power words s k) 0

pub located : (power s n i : ℕ) (words : List ℕ) → i < count_before power words s n → IsLocated power s n i words
located power s zero i words under = absurd (omega arith)
located power s (suc n) i words under =
    let chain = in_slot power s 0 words in
    let others = in_slots power words (s + 1) n in
    let whole : count_before power words s (suc n) ≡ length chain + length others = length-append chain others in
    elim (leb_tells (length chain) i) [
      | inl past ↦ (
          let beyond : length chain ≤ i = past.1 in
          let later = located power (s + 1) n (i - length chain) words (omega arith) in
          let low = later.low in
          let high = later.high in
          let more : count_before power words s (suc later.k) ≡ length chain + count_before power words (s + 1) later.k = length-append chain (in_slots power words (s + 1) later.k) in
          let same : i - length chain - count_before power words (s + 1) later.k ≡ i - count_before power words s (suc later.k) = omega arith in
          record {
            k = suc later.k;
            t = later.t;
            t_is = let is = later.t_is in omega arith;
            under = let u = later.under in omega arith;
            low = omega arith;
            high = omega arith;
            is = get_or-append_right chain others i 0 beyond ∙ later.is ∙ ap (λ x. get_or (in_slot power later.t 0 words) x 0) same;
          })
      | inr within ↦ (
          let inside : i < length chain = within.1 in
          let same : i - 0 ≡ i = omega arith in
          record {
            k = 0;
            t = s;
            t_is = omega arith;
            under = omega arith;
            low = omega arith;
            high = omega arith;
            is = get_or-append chain others 0 i inside ∙ ap (λ x. get_or chain x 0) (sym same);
          })
    ]

-- the words before a slot, and in it, are those before the next one
pub count_before-next : (power s k : ℕ) (words : List ℕ) → count_before power words s (suc k) ≡ count_before power words s k + count_in power words (s + k)
count_before-next power s zero words =
    let e : s + 0 ≡ s = omega arith in
    rw (length-append, e) (omega arith)
count_before-next power s (suc k) words =
    let later = count_before-next power (s + 1) k words in
    let e : s + 1 + k ≡ s + suc k = omega arith in
    let moved : count_before power words (s + 1) (suc k) ≡ count_before power words (s + 1) k + count_in power words (s + suc k) = later ∙ ap (λ x. count_before power words (s + 1) k + count_in power words x) e in
    let one : count_before power words s (suc (suc k)) ≡ count_in power words s + count_before power words (s + 1) (suc k) = length-append _ _ in
    let two : count_before power words s (suc k) ≡ count_in power words s + count_before power words (s + 1) k = length-append _ _ in
    omega arith

-- more slots have no fewer words
pub count_before-more : (power : ℕ) (words : List ℕ) (a d : ℕ) → count_before power words 0 a ≤ count_before power words 0 (d + a)
count_before-more power words a zero = let e : 0 + a ≡ a = omega arith in rw e (omega arith)
count_before-more power words a (suc d) =
    let less = count_before-more power words a d in
    let next = count_before-next power 0 (d + a) words in
    let e : suc d + a ≡ suc (d + a) = omega arith in
    rw e (omega arith)

-- the slots of two places that overlap are one
pub count_before-past : (power : ℕ) (words : List ℕ) (a b : ℕ) → a < b → count_before power words 0 a + count_in power words a ≤ count_before power words 0 b
count_before-past power words a b under =
    let next = count_before-next power 0 a words in
    let e : 0 + a ≡ a = omega arith in
    let here : count_before power words 0 (suc a) ≡ count_before power words 0 a + count_in power words a = next ∙ ap (λ x. count_before power words 0 a + count_in power words x) e in
    let more = count_before-more power words (suc a) (b - suc a) in
    let f : b - suc a + suc a ≡ b = omega arith in
    let upto : count_before power words 0 (suc a) ≤ count_before power words 0 b = rw f at more in
    omega arith

-- slot word s + k
pub slot_words-at : (power : ℕ) (words : List ℕ) (s first n k : ℕ) → k < n → get_or (slot_words power words s first n) k 0 ≡ slot_word (count_in power words (s + k)) (first + count_before power words s k)
slot_words-at power words s first zero k under = absurd (omega arith)
slot_words-at power words s first (suc n) zero under =
    let e : s + 0 ≡ s = omega arith in
    let f : first + 0 ≡ first = omega arith in
    rw (e, f) refl
slot_words-at power words s first (suc n) (suc k) under =
    let later = slot_words-at power words (s + 1) (first + count_in power words s) n k (omega arith) in
    let e : s + 1 + k ≡ s + suc k = omega arith in
    let more : count_before power words s (suc k) ≡ count_in power words s + count_before power words (s + 1) k = length-append _ _ in
    let sums : first + count_in power words s + count_before power words (s + 1) k ≡ first + count_before power words s (suc k) = omega arith in
    later ∙ rw (e, sums) refl

-- each word has a place in the list of its slot
pub record IsListed (power s from j : ℕ) (words : List ℕ) : Type 0 where
  pub k : ℕ
  pub under : k < length (in_slot power s from words)
  pub is : get_or (in_slot power s from words) k 0 ≡ j

-- an entry listed further on is listed from here on too
behind : (power s from j w : ℕ) (words : List ℕ) → IsListed power s (from + 1) j words → ((eqb (slot w power) s ≡ true) × (slot w power ≡ s)) ⊎ ((eqb (slot w power) s ≡ false) × (slot w power ≢ s)) → IsListed power s from j (w ∷ words)
behind power s from j w words later (inl same) = record { k = suc later.k; under = rw same.0 (let u = later.under in omega arith); is = rw same.0 later.is }
behind power s from j w words later (inr other) = record { k = later.k; under = rw other.0 later.under; is = rw other.0 later.is }

pub listed : (power s from j : ℕ) (all words : List ℕ) → drop from all ≡ words → from ≤ j → j < length all → slot (get_or all j 0) power ≡ s → IsListed power s from j words
listed power s from j all [] is low high here =
    let more = drop-cons all from 0 (omega arith) in
    let clash = sym is ∙ more in
    absurd (cc)
listed power s from j all (w ∷ words) is low high here =
    let next = drop_after all words w from is in
    elim (eqb_tells from j) [
      | inl same ↦ (
          let at_j : from ≡ j = same.1 in
          let at_from : slot (get_or all from 0) power ≡ s = rw at_j here in
          let first : slot w power ≡ s = rw (at_drop all words w from is) at at_from in
          let yes = eq-eqb (slot w power) s first in
          record { k = 0; under = rw yes (omega arith); is = rw yes at_j })
      | inr other ↦ (
          let apart : from ≢ j = other.1 in
          let later = listed power s (from + 1) j all words next (omega arith) high here in
          behind power s from j w words later (eqb_tells (slot w power) s))
    ]

-- the k-th word of slot s + m is k places after the words of the slots before it
pub in_slots-at : (power s n m k : ℕ) (words : List ℕ) → m < n → k < count_in power words (s + m) → get_or (in_slots power words s n) (count_before power words s m + k) 0 ≡ get_or (in_slot power (s + m) 0 words) k 0
in_slots-at power s zero m k words under less = absurd (omega arith)
in_slots-at power s (suc n) zero k words under less =
    let e : s + 0 ≡ s = omega arith in
    let f : 0 + k ≡ k = omega arith in
    let inside : k < count_in power words s = rw e at less in
    rw (e, f) (get_or-append (in_slot power s 0 words) (in_slots power words (s + 1) n) 0 k inside)
in_slots-at power s (suc n) (suc m) k words under less =
    let e : s + suc m ≡ s + 1 + m = omega arith in
    let later = in_slots-at power (s + 1) n m k words (omega arith) (rw e at less) in
    let more : count_before power words s (suc m) ≡ count_in power words s + count_before power words (s + 1) m = length-append _ _ in
    let sums : count_before power words s (suc m) + k ≡ count_in power words s + (count_before power words (s + 1) m + k) = omega arith in
    rw (sums, e) (get_or-append-add (in_slot power s 0 words) (in_slots power words (s + 1) n) (count_before power words (s + 1) m + k) 0 ∙ later)
