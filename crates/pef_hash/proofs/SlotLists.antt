-- The words of a slot: the first of them, the next of them, and how many there are in all.
use Rattle.std.proofs.Common.{◌++◌, ◌+◌, ◌-◌, ◌<◌, ◌^◌, ◌∙◌, ◌∷◌, ◌≡◌, ◌≢◌, ◌≤◌, List, [], add-one, ap, append-nil, append_assoc, arith, drop, drop-cons, get_or, inl, inr, length, length-append, refl, suc, sym, zero, ℕ}
use Rattle.std.proofs.lemmas.Bool.{ne_eqb}
use Rattle.std.proofs.lemmas.Bool.Decides.{eqb_tells}
use Rattle.std.proofs.Common.{eq-eqb}
use Rattle.pef_hash.specs.Word.{slot}
use Rattle.std.proofs.lemmas.List.{get_or-set_other, get_or-set_same, get_or_default, map-append}
use Rattle.std.proofs.Math.ListN.{length-set, set}
use Rattle.pef_hash.specs.Build.{in_slot, in_slots, keys_at, names_in, of_words, slot_words}
use Rattle.pef_hash.specs.Exports.{slot_word}
use Rattle.pef_hash.specs.Kept.Chains.{IsChained, IsChainedFrom, first_in}
use Rattle.pef_hash.proofs.Slots.{slot_below}

-- the rest after one more item
drop_suc : (xs rest : List ℕ) (x i : ℕ) → drop i xs ≡ x ∷ rest → drop (suc i) xs ≡ rest
drop_suc [] rest x zero is = absurd (cc)
drop_suc [] rest x (suc i) is = absurd (cc)
drop_suc (y ∷ xs) rest x zero is = cc
drop_suc (y ∷ xs) rest x (suc i) is = drop_suc xs rest x i is

pub drop_after : (xs rest : List ℕ) (x i : ℕ) → drop i xs ≡ x ∷ rest → drop (i + 1) xs ≡ rest
drop_after xs rest x i is = rw add-one (drop_suc xs rest x i is)

-- the item where the rest begins
pub at_drop : (xs rest : List ℕ) (x i : ℕ) → drop i xs ≡ x ∷ rest → get_or xs i 0 ≡ x
at_drop [] rest x zero is = absurd (cc)
at_drop [] rest x (suc i) is = absurd (cc)
at_drop (y ∷ xs) rest x zero is = cc
at_drop (y ∷ xs) rest x (suc i) is = at_drop xs rest x i is

pub first_in-low : (power s from : ℕ) (words : List ℕ) → from ≤ first_in power s from words
first_in-low power s from [] = omega arith
first_in-low power s from (w ∷ words) =
    let later = first_in-low power s (from + 1) words in
    elim (eqb_tells (slot w power) s) [
      | inl same ↦ rw same.0 (omega arith)
      | inr other ↦ rw other.0 (omega arith)
    ]

-- the first word of a slot is in the slot
pub first_in-slot : (power s from : ℕ) (all words : List ℕ) → drop from all ≡ words → first_in power s from words < length all → slot (get_or all (first_in power s from words) 0) power ≡ s
first_in-slot power s from all [] is under =
    let more = drop-cons all from 0 under in
    let clash = sym is ∙ more in
    absurd (cc)
first_in-slot power s from all (w ∷ words) is under =
    let at = at_drop all words w from is in
    let later = first_in-slot power s (from + 1) all words (drop_after all words w from is) in
    elim (eqb_tells (slot w power) s) [
      | inl same ↦ rw (same.0, at) same.1
      | inr other ↦ rw other.0 (later (rw other.0 at under))
    ]

-- before the first word of a slot there is none
pub in_slot-first : (power s from : ℕ) (all words : List ℕ) → drop from all ≡ words → in_slot power s from words ≡ in_slot power s (first_in power s from words) (drop (first_in power s from words) all)
in_slot-first power s from all [] is = rw is refl
in_slot-first power s from all (w ∷ words) is =
    let later = in_slot-first power s (from + 1) all words (drop_after all words w from is) in
    elim (eqb_tells (slot w power) s) [
      | inl same ↦ rw (same.0, is, same.0) refl
      | inr other ↦ rw other.0 later
    ]

-- a word of the slot, and those after it
pub in_slot-here : (power s from : ℕ) (all : List ℕ) → from < length all → slot (get_or all from 0) power ≡ s → in_slot power s from (drop from all) ≡ from ∷ in_slot power s (from + 1) (drop (from + 1) all)
in_slot-here power s from all under here =
    let left : drop from all ≡ get_or all from 0 ∷ drop (from + 1) all = rw (add-one, drop-cons all from 0) refl in
    rw (left, eq-eqb _ _ here) refl

-- as many words as there are in a slot, from wherever they are counted
pub length-in_slot : (power s from to : ℕ) (words : List ℕ) → length (in_slot power s from words) ≡ length (in_slot power s to words)
length-in_slot power s from to [] = refl
length-in_slot power s from to (w ∷ words) =
    let later = length-in_slot power s (from + 1) (to + 1) words in
    elim (eqb_tells (slot w power) s) [
      | inl same ↦ rw same.0 (ap suc later)
      | inr other ↦ rw other.0 later
    ]

-- a word is in no slot after its own
pub length-past : (power w : ℕ) (words : List ℕ) (s n : ℕ) → slot w power < s → length (in_slots power (w ∷ words) s n) ≡ length (in_slots power words s n)
length-past power w words s zero past = refl
length-past power w words s (suc n) past =
    let later = length-past power w words (s + 1) n (omega arith) in
    let other = ne_eqb (slot w power) s (λ is. absurd (omega arith)) in
    let same = length-in_slot power s 1 0 words in
    rw (other, length-append, length-append, same, later) refl

-- and in one slot among those from its own or one before it on
pub length-among : (power w : ℕ) (words : List ℕ) (s n : ℕ) → s ≤ slot w power → slot w power < s + n → length (in_slots power (w ∷ words) s n) ≡ suc (length (in_slots power words s n))
length-among power w words s zero low high = absurd (omega arith)
length-among power w words s (suc n) low high =
    let same = length-in_slot power s 1 0 words in
    elim (eqb_tells (slot w power) s) [
      | inl here ↦ (let later = length-past power w words (s + 1) n (let is = here.1 in omega arith) in rw (here.0, length-append, length-append, same, later) (omega arith))
      | inr other ↦ (let later = length-among power w words (s + 1) n (let apart = other.1 in omega arith) (omega arith) in rw (other.0, length-append, length-append, same, later) (omega arith))
    ]

-- no words are in no slot
length-nothing : (power s n : ℕ) → length (in_slots power [] s n) ≡ 0
length-nothing power s zero = refl
length-nothing power s (suc n) = length-nothing power (s + 1) n

-- each word is in one slot
pub length-in_slots : (power : ℕ) (words : List ℕ) → length (in_slots power words 0 (2 ^ power)) ≡ length words
length-in_slots power [] = length-nothing power 0 (2 ^ power)
length-in_slots power (w ∷ words) =
    let below = slot_below w power in
    length-among power w words 0 (2 ^ power) (omega arith) (omega arith) ∙ ap suc (length-in_slots power words)

-- the words before the slots that are left are no more than all words
pub length-before : (power s : ℕ) (words order : List ℕ) → order ++ in_slots power words s (2 ^ power - s) ≡ in_slots power words 0 (2 ^ power) → length order ≤ length words
length-before power s words order all =
    let whole = length-in_slots power words in
    let both = ap length all in
    let sums = simp length-append at both in
    omega arith

-- one slot more
pub in_slots-next : (power s n : ℕ) (words order all : List ℕ) → s < n → order ++ in_slots power words s (n - s) ≡ all → (order ++ in_slot power s 0 words) ++ in_slots power words (s + 1) (n - (s + 1)) ≡ all
in_slots-next power s n words order all under is =
    let e : n - s ≡ suc (n - (s + 1)) = omega arith in
    rw append_assoc (rw e at is)

pub slot_words-next : (power s n first : ℕ) (words slots all : List ℕ) → s < n → slots ++ slot_words power words s first (n - s) ≡ all
    → (slots ++ slot_word (length (in_slot power s 0 words)) first ∷ []) ++ slot_words power words (s + 1) (first + length (in_slot power s 0 words)) (n - (s + 1)) ≡ all
slot_words-next power s n first words slots all under is =
    let e : n - s ≡ suc (n - (s + 1)) = omega arith in
    rw append_assoc (rw e at is)

-- the order with the words of one more slot: the words left after it, and its length
pub record HasGrown (power s : ℕ) (words old new : List ℕ) : Type 0 where
  pub left : new ++ in_slots power words (s + 1) (2 ^ power - (s + 1)) ≡ in_slots power words 0 (2 ^ power)
  pub more : length new ≡ length old + length (in_slot power s 0 words)
  pub within : length new ≤ length words

pub has_grown : (power s : ℕ) (words old new : List ℕ) → s < 2 ^ power → old ++ in_slots power words s (2 ^ power - s) ≡ in_slots power words 0 (2 ^ power)
    → new ≡ old ++ in_slot power s 0 words → HasGrown power s words old new
has_grown power s words old new under left is =
    let next = rw (← is) at (in_slots-next power s (2 ^ power) words old _ under left) in
    record { left = next; more = ap length is ∙ length-append old (in_slot power s 0 words); within = length-before power (s + 1) words new next }

-- after the last slot the table is laid out
pub laid_out : (power s : ℕ) (words slots keys order : List ℕ) → 2 ^ power ≤ s
    → slots ++ slot_words power words s (length order) (2 ^ power - s) ≡ slot_words power words 0 0 (2 ^ power) → keys ≡ keys_at words order
    → order ++ in_slots power words s (2 ^ power - s) ≡ in_slots power words 0 (2 ^ power)
    → record { power = power; slots = slots; keys = keys; order = order } ≡ of_words power words
laid_out power s words slots keys order past slots_are keys_are order_is =
    let none : 2 ^ power - s ≡ 0 = omega arith in
    let ordered : order ≡ in_slots power words 0 (2 ^ power) = rw (none, append-nil) at order_is in
    let slotted : slots ≡ slot_words power words 0 0 (2 ^ power) = rw (none, append-nil) at slots_are in
    rw (keys_are, slotted, ordered) refl

-- one word more, from the last to the first: it becomes the first of its slot, and leads to the
-- previous first
pub chained-more : (power i s head : ℕ) (words heads next : List ℕ) → i < length words → s ≡ slot (get_or words i 0) power → s < 2 ^ power → head ≡ get_or heads s head
    → IsChainedFrom (i + 1) power words heads next → IsChainedFrom i power words (set heads s i) (set next i head)
chained-more power i s head words heads next under s_is below head_is later =
    let heads_len = later.heads_len in
    let next_len = later.next_len in
    let left : drop i words ≡ get_or words i 0 ∷ drop (i + 1) words = rw (add-one, drop-cons words i 0) refl in
    record {
      heads_len = length-set heads s i ∙ heads_len;
      next_len = length-set next i head ∙ next_len;
      heads_are = λ t inside. elim (eqb_tells s t) [
        | inl same ↦ (
            let here : slot (get_or words i 0) power ≡ t = sym s_is ∙ same.1 in
            rw (left, eq-eqb _ _ here) (rw (← same.1) (get_or-set_same heads s i 0 (omega arith))))
        | inr other ↦ (
            let elsewhere : slot (get_or words i 0) power ≢ t = λ is. other.1 (s_is ∙ is) in
            rw (left, ne_eqb _ _ elsewhere) (get_or-set_other heads s t i 0 (λ is. other.1 (sym is)) ∙ later.heads_are t inside))
      ];
      next_are = λ k low high. elim (eqb_tells i k) [
        | inl same ↦ (
            let first : head ≡ first_in power s (i + 1) (drop (i + 1) words) = head_is ∙ get_or_default heads s head 0 (omega arith) ∙ later.heads_are s below in
            rw (← same.1, ← s_is) (get_or-set_same next i head 0 (omega arith) ∙ first))
        | inr other ↦ (
            let apart : i ≢ k = other.1 in
            get_or-set_other next i k head 0 (λ is. apart (sym is)) ∙ later.next_are k (omega arith) high)
      ];
    }

-- a place is that of a word of the slot, or the one after all words
pub record Leads (power s at : ℕ) (words : List ℕ) : Type 0 where
  pub here : at < length words → slot (get_or words at 0) power ≡ s

-- the head of a slot is the first of all its words
pub head_of : (power s at : ℕ) (words heads next : List ℕ) → IsChained power words heads next → s < 2 ^ power → at ≡ get_or heads s at → at ≡ first_in power s 0 words
head_of power s at words heads next chained under is =
    let inside : s < length heads = let n = chained.heads_len in omega arith in
    is ∙ get_or_default heads s at 0 inside ∙ chained.heads_are s under

pub leads_from_head : (power s at : ℕ) (words : List ℕ) → at ≡ first_in power s 0 words → Leads power s at words
leads_from_head power s at words first = record { here = rw first (first_in-slot power s 0 words words refl) }

pub in_slot-head : (power s at : ℕ) (words : List ℕ) → at ≡ first_in power s 0 words → in_slot power s at (drop at words) ≡ in_slot power s 0 words
in_slot-head power s at words first = rw first (sym (in_slot-first power s 0 words words refl))

-- the link of a word leads to the next one of its slot
pub next_of : (power s at to : ℕ) (words heads next : List ℕ) → IsChained power words heads next → at < length words → Leads power s at words → to ≡ get_or next at to → to ≡ first_in power s (at + 1) (drop (at + 1) words)
next_of power s at to words heads next chained under leads is =
    let inside : at < length next = let n = chained.next_len in omega arith in
    is ∙ get_or_default next at to 0 inside ∙ rw (leads.here under) at (chained.next_are at (omega arith) under)

pub leads_next : (power s at to : ℕ) (words : List ℕ) → to ≡ first_in power s (at + 1) (drop (at + 1) words) → Leads power s to words
leads_next power s at to words first = record { here = rw first (first_in-slot power s (at + 1) words (drop (at + 1) words) refl) }

pub next-high : (power s at to : ℕ) (words : List ℕ) → to ≡ first_in power s (at + 1) (drop (at + 1) words) → at < to
next-high power s at to words first =
    let behind = first_in-low power s (at + 1) (drop (at + 1) words) in
    omega arith

pub in_slot-next : (power s at to : ℕ) (words : List ℕ) → at < length words → Leads power s at words → to ≡ first_in power s (at + 1) (drop (at + 1) words) → in_slot power s at (drop at words) ≡ at ∷ in_slot power s to (drop to words)
in_slot-next power s at to words under leads first =
    in_slot-here power s at words under (leads.here under) ∙ ap (λ xs. at ∷ xs) (rw first (in_slot-first power s (at + 1) words (drop (at + 1) words) refl))

-- no places have no words
pub keys_at-none : (words : List ℕ) → keys_at words [] ≡ []
unfolding keys_at
keys_at-none words = refl

-- a word more
pub keys_at-more : (words order : List ℕ) (x : ℕ) → keys_at words (order ++ x ∷ []) ≡ keys_at words order ++ get_or words x 0 ∷ []
unfolding keys_at
keys_at-more words order x = simp map-append

-- as many names as lengths
pub length-names_in : (bytes lengths : List ℕ) → length (names_in bytes lengths) ≡ length lengths
length-names_in bytes [] = refl
length-names_in bytes (n ∷ lengths) = ap suc (length-names_in (drop n bytes) lengths)
