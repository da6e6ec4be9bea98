-- A table that is written for some names is regular, and has each name's own key and no other.
use Rattle.std.proofs.Common.{◌≡◌, ◌≢◌, ℕ, ◌+◌, ◌-◌, ◌^◌, ◌<◌, ◌≤◌, inl, inr, cond, List, [], length, get_or, map, Option, Some, None, Bool, true, false, refl, sym, ◌∙◌, ap, arith}
use Rattle.std.proofs.lemmas.Bool.{ltb-true}
use Rattle.std.proofs.lemmas.Bool.Decides.{eqb_tells, leb_tells}
use Rattle.std.proofs.lemmas.List.{get_or-map, length-map}
use Rattle.std.proofs.lemmas.Nat.{div-mul-add}
use Rattle.std.proofs.Math.Nat.{mul-add-mod_self_right, mod-eq_of_lt}
use Rattle.pef_hash.specs.Word.{hash_word, slot}
use Rattle.pef_hash.specs.Build.{built, count_before, count_in, in_slots, keys_at, slot_words}
use Rattle.pef_hash.specs.Exports.{ExportTable, export_named, key_of, name_of, slot_count, slot_first, slot_word, slot_word_of}
use Rattle.pef_hash.specs.Limits.{index_limit, names_limit}
use Rattle.pef_hash.specs.Regular.{AreDistinct, BuiltHasNoOther, BuiltHasOwn, BuiltIsRegular, IsCounted, RegularEndsInside, Spells}
use Rattle.pef_hash.proofs.NamedExports.{export_named-none, export_named-some}
use Rattle.pef_hash.proofs.Places.{count_before-more, count_before-past, in_slot-member, in_slots-at, listed, located, slot_words-at}
use Rattle.pef_hash.proofs.Slots.{slot_below}
use Rattle.pef_hash.proofs.SlotLists.{length-in_slots}

-- a place of the order has a word, in the slot that lists it
pub record IsPlaced (power i : ℕ) (words : List ℕ) : Type 0 where
  pub s : ℕ
  pub word : get_or (in_slots power words 0 (2 ^ power)) i 0 < length words
  pub is : slot (get_or words (get_or (in_slots power words 0 (2 ^ power)) i 0) 0) power ≡ s
  pub low : count_before power words 0 s ≤ i
  pub high : i < count_before power words 0 s + count_in power words s

pub placed : (power i : ℕ) (words : List ℕ) → i < length words → IsPlaced power i words
placed power i words under =
    let all = length-in_slots power words in
    let at = located power 0 (2 ^ power) i words (omega arith) in
    let k_is : at.k ≡ at.t = let is = at.t_is in omega arith in
    let low : count_before power words 0 at.t ≤ i = rw k_is at at.low in
    let high : i < count_before power words 0 at.t + count_in power words at.t = rw k_is at at.high in
    let member = in_slot-member power at.t 0 (i - count_before power words 0 at.k) words words refl (let l = at.low in let h = at.high in omega arith) in
    record {
      s = at.t;
      word = rw at.is member.high;
      is = rw at.is member.here;
      low = low;
      high = high;
    }

-- a place within the words of a slot is that of a word in the slot
pub same_slot : (power : ℕ) (words : List ℕ) (s t i : ℕ) → count_before power words 0 s ≤ i → i < count_before power words 0 s + count_in power words s
    → count_before power words 0 t ≤ i → i < count_before power words 0 t + count_in power words t → s ≡ t
same_slot power words s t i low high low' high' =
    elim (eqb_tells s t) [
      | inl same ↦ same.1
      | inr other ↦ (
          let apart : s ≢ t = other.1 in
          elim (leb_tells s t) [
            | inl below ↦ (let le : s ≤ t = below.1 in let past = count_before-past power words s t (omega arith) in absurd (omega arith))
            | inr above ↦ (let lt : t < s = above.1 in let past = count_before-past power words t s lt in absurd (omega arith))
          ])
    ]

-- words at earlier places are in no later slots
pub rising_slots : (power : ℕ) (words : List ℕ) (i j : ℕ) (p : IsPlaced power i words) (q : IsPlaced power j words) → i < j → p.s ≤ q.s
rising_slots power words i j p q under =
    let low = p.low in
    let high = q.high in
    elim (leb_tells p.s q.s) [
      | inl below ↦ below.1
      | inr above ↦ (let past = count_before-past power words q.s p.s above.1 in absurd (omega arith))
    ]

-- the words before a slot are no more than all
before-most : (power s : ℕ) (words : List ℕ) → s < 2 ^ power → count_before power words 0 s ≤ length words
before-most power s words under =
    let more = count_before-more power words s (2 ^ power - s) in
    let e : 2 ^ power - s + s ≡ 2 ^ power = omega arith in
    let upto : count_before power words 0 s ≤ count_before power words 0 (2 ^ power) = rw e at more in
    let all = length-in_slots power words in
    omega arith

-- a slot word counts the words of its slot, beginning after those of the slots before it
pub counts : (power s w : ℕ) (words : List ℕ) → length words < names_limit → s < 2 ^ power → w ≡ get_or (slot_words power words 0 0 (2 ^ power)) s 0
    → (slot_count w ≡ count_in power words s) × (slot_first w ≡ count_before power words 0 s)
counts power s w words few under w_is =
    let most = before-most power s words under in
    let e : 0 + s ≡ s = omega arith in
    let f : 0 + count_before power words 0 s ≡ count_before power words 0 s = omega arith in
    let spelled : w ≡ slot_word (count_in power words s) (count_before power words 0 s) = w_is ∙ slot_words-at power words 0 0 (2 ^ power) s under ∙ rw (e, f) refl in
    let small : count_before power words 0 s < index_limit = omega arith in (
      ap slot_count spelled ∙ div-mul-add (count_in power words s) index_limit (count_before power words 0 s) small,
      ap slot_first spelled ∙ mul-add-mod_self_right (count_in power words s) index_limit (count_before power words 0 s) ∙ mod-eq_of_lt small,
    )

-- the places that it counts have words of the slot
pub counted-here : (power s w i : ℕ) (words : List ℕ) → length words < names_limit → s < 2 ^ power → w ≡ get_or (slot_words power words 0 0 (2 ^ power)) s 0 → IsCounted w i
    → (i < length words) × (slot (get_or words (get_or (in_slots power words 0 (2 ^ power)) i 0) 0) power ≡ s)
counted-here power s w i words few under w_is counted =
    let are = counts power s w words few under w_is in
    let low : count_before power words 0 s ≤ i = let l = counted.low in omega (arith, are.1) in
    let high : i < count_before power words 0 s + count_in power words s = let h = counted.high in omega (arith, are.0, are.1) in
    let past = count_before-past power words s (2 ^ power) under in
    let all = length-in_slots power words in
    let inside : i < length words = omega arith in
    let p = placed power i words inside in
    (inside, p.is ∙ same_slot power words p.s s i p.low p.high low high)

-- and each word of the slot is at such a place
pub here-counted : (power s w i : ℕ) (words : List ℕ) → length words < names_limit → s < 2 ^ power → w ≡ get_or (slot_words power words 0 0 (2 ^ power)) s 0 → i < length words
    → slot (get_or words (get_or (in_slots power words 0 (2 ^ power)) i 0) 0) power ≡ s → IsCounted w i
here-counted power s w i words few under w_is inside here =
    let are = counts power s w words few under w_is in
    let p = placed power i words inside in
    let at : p.s ≡ s = sym p.is ∙ here in
    let low : count_before power words 0 s ≤ i = rw at at p.low in
    let high : i < count_before power words 0 s + count_in power words s = rw at at p.high in
    record { low = omega (arith, are.1); high = omega (arith, are.0, are.1) }

-- a place with a word of its key
pub key-is : (power i : ℕ) (names : List (List ℕ)) → i < length names
    → get_or (keys_at (map hash_word names) (in_slots power (map hash_word names) 0 (2 ^ power))) i 0 ≡ get_or (map hash_word names) (get_or (in_slots power (map hash_word names) 0 (2 ^ power)) i 0) 0
unfolding keys_at
key-is power i names under =
    let all = length-in_slots power (map hash_word names) in
    let same : length (map hash_word names) ≡ length names = simp length-map in
    get_or-map (λ j. get_or (map hash_word names) j 0) (in_slots power (map hash_word names) 0 (2 ^ power)) i 0 0 (omega arith)

-- if a choice gives a value, its test holds
chosen : (b : Bool) (o : Option ℕ) (x : ℕ) → cond b o None ≡ Some x → b ≡ true
chosen true o x is = refl
chosen false o x is = absurd (cc)

-- a key that exists is below the count, and a slot word below the number of slots
pub key_inside : (t : ExportTable) (i k : ℕ) → key_of t i ≡ Some k → i < t.count
unfolding key_of
key_inside t i k is = ltb-true i t.count (chosen _ _ k is)

pub slot_inside : (t : ExportTable) (s w : ℕ) → slot_word_of t s ≡ Some w → s < 2 ^ t.power
unfolding slot_word_of
slot_inside t s w is = ltb-true s (2 ^ t.power) (chosen _ _ w is)

-- the key that a spelled table has
pub spelled_key : (names : List (List ℕ)) (t : ExportTable) (i k : ℕ) → Spells t (built names) names → key_of t i ≡ Some k
    → (i < length names) × (k ≡ get_or (map hash_word names) (get_or (built names).order i 0) 0)
unfolding built
spelled_key names t i k spells is =
    let inside : i < length names = let count = spells.count in let under = key_inside t i k is in omega arith in
    let key = spells.keys i inside in
    let same : k ≡ get_or (built names).keys i 0 = cc in
    (inside, same ∙ key-is (built names).power i names inside)

-- how many words there are
words-len : (names : List (List ℕ)) → length (map hash_word names) ≡ length names
words-len names = simp length-map

-- the place of a word in the order is that of a name
pub ordered_name : (names : List (List ℕ)) (i : ℕ) → i < length names → get_or (built names).order i 0 < length names
unfolding built
ordered_name names i under =
    let len = words-len names in
    let p = placed (built names).power i (map hash_word names) (omega arith) in
    let word = p.word in
    omega arith

pub built_is_regular : BuiltIsRegular
unfolding built
built_is_regular names t few spells =
    let words = map hash_word names in
    let len = words-len names in
    record {
      keyed = λ i under. let inside : i < length names = let count = spells.count in omega arith in
          let at = ordered_name names i inside in (
            get_or names (get_or (built names).order i 0) [],
            spells.ordered i inside,
            spells.keys i inside ∙ ap Some (key-is (built names).power i names inside ∙ get_or-map hash_word names (get_or (built names).order i 0) [] 0 at),
          );
      ordered = λ i j k l before is is'. let first = spelled_key names t i k spells is in
          let second = spelled_key names t j l spells is' in
          let p = placed (built names).power i words (let u = first.0 in omega arith) in
          let q = placed (built names).power j words (let u = second.0 in omega arith) in
          let one : slot k t.power ≡ p.s = ap (λ x. slot x t.power) first.1 ∙ ap (λ x. slot (get_or words (get_or (built names).order i 0) 0) x) spells.power ∙ p.is in
          let two : slot l t.power ≡ q.s = ap (λ x. slot x t.power) second.1 ∙ ap (λ x. slot (get_or words (get_or (built names).order j 0) 0) x) spells.power ∙ q.is in
          let rise = rising_slots (built names).power words i j p q before in
          omega arith;
      delimited = λ s w i there. let under : s < 2 ^ (built names).power = rw spells.power at (slot_inside t s w there) in
          let word = spells.slots s under in
          let same : w ≡ get_or (built names).slots s 0 = cc in (
            (λ counted. let is = counted-here (built names).power s w i words (omega arith) under same counted in
                let inside : i < length names = let u = is.0 in omega arith in
                record {
                  key = get_or (built names).keys i 0;
                  is = spells.keys i inside;
                  here = rw spells.power (ap (λ k. slot k (built names).power) (key-is (built names).power i names inside) ∙ is.1);
                }),
            (λ at. let key = spelled_key names t i at.key spells at.is in
                let here : slot (get_or words (get_or (built names).order i 0) 0) (built names).power ≡ s = ap (λ k. slot k (built names).power) (sym key.1) ∙ rw spells.power at at.here in
                here-counted (built names).power s w i words (omega arith) under same (let u = key.0 in omega arith) here),
          );
    }

-- a slot that counts a key ends inside
pub regular_ends_inside : RegularEndsInside
regular_ends_inside t s w regular there some =
    let last : ℕ = slot_first w + slot_count w - 1 in
    let counted : IsCounted w last = record { low = omega arith; high = omega arith } in
    let at = (regular.delimited s w last there).0 counted in
    let under = key_inside t last at.key at.is in
    omega arith

-- the place of a name
pub record HasPlace (power j : ℕ) (words : List ℕ) : Type 0 where
  pub i : ℕ
  pub under : i < length words
  pub is : get_or (in_slots power words 0 (2 ^ power)) i 0 ≡ j

pub has_place : (power j : ℕ) (words : List ℕ) → j < length words → HasPlace power j words
has_place power j words under =
    let s = slot (get_or words j 0) power in
    let below : s < 2 ^ power = slot_below (get_or words j 0) power in
    let l = listed power s 0 j words words refl (omega arith) under refl in
    let all = length-in_slots power words in
    let upto = count_before-past power words s (2 ^ power) below in
    let less : l.k < count_in power words s = l.under in
    let zero_more : 0 + s ≡ s = omega arith in
    record {
      i = count_before power words 0 s + l.k;
      under = omega arith;
      is = in_slots-at power 0 (2 ^ power) s l.k words below (rw zero_more less) ∙ rw zero_more l.is;
    }

pub record HasNamePlace (names : List (List ℕ)) (j : ℕ) : Type 0 where
  pub i : ℕ
  pub under : i < length names
  pub is : get_or (built names).order i 0 ≡ j

name_place : (names : List (List ℕ)) (j : ℕ) → j < length names → HasNamePlace names j
unfolding built
name_place names j under =
    let len = words-len names in
    let place = has_place (built names).power j (map hash_word names) (omega arith) in
    record { i = place.i; under = let u = place.under in omega arith; is = place.is }

-- each of distinct names has its own key
own_found : (names : List (List ℕ)) (t : ExportTable) (j i : ℕ) (first : Option ℕ) → Spells t (built names) names → AreDistinct names → j < length names
    → i < length names → get_or (built names).order i 0 ≡ j → export_named t (get_or names j []) ≡ first
    → (x : ℕ) × (first ≡ Some x) × (x < length names) × (get_or (built names).order x 0 ≡ j)
own_found names t j i None spells distinct under inside at none =
    let count = spells.count in
    let name : name_of t i ≡ Some (get_or names j []) = rw at at (spells.ordered i inside) in
    absurd (export_named-none t (get_or names j []) i none (omega arith) name)
own_found names t j i (Some x) spells distinct under inside at some =
    let count = spells.count in
    let found = export_named-some t (get_or names j []) x some in
    let low : x < length names = let high = found.below in omega arith in
    let ordered = spells.ordered x low in
    let named = found.named in
    let same : get_or names (get_or (built names).order x 0) [] ≡ get_or names j [] = cc in
    (x, refl, low, distinct (get_or (built names).order x 0) j (ordered_name names x low) under same)

pub built_has_own : BuiltHasOwn
built_has_own names t j few spells distinct under =
    let place = name_place names j under in
    own_found names t j place.i (export_named t (get_or names j [])) spells distinct under place.under place.is refl

-- and no other name has one
none_found : (names : List (List ℕ)) (t : ExportTable) (other : List ℕ) (first : Option ℕ) → Spells t (built names) names
    → ((j : ℕ) → j < length names → get_or names j [] ≢ other) → export_named t other ≡ first → first ≡ None
none_found names t other None spells apart is = refl
none_found names t other (Some x) spells apart some =
    let count = spells.count in
    let found = export_named-some t other x some in
    let low : x < length names = let high = found.below in omega arith in
    let ordered = spells.ordered x low in
    let named = found.named in
    let same : get_or names (get_or (built names).order x 0) [] ≡ other = cc in
    absurd (apart (get_or (built names).order x 0) (ordered_name names x low) same)

pub built_has_no_other : BuiltHasNoOther
built_has_no_other names t other few spells apart = none_found names t other (export_named t other) spells apart refl
