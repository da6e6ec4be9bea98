-- The names of exports in one list of bytes, and the table that is built of them.
use Rattle.std.proofs.Common.{◌≡◌, ◌∙◌, ℕ, suc, zero, ◌+◌, ◌*◌, ◌^◌, ◌<◌, ◌≤◌, List, [], ◌∷◌, ◌++◌, None, length, drop, map, get_or, slice_get, length-append, refl, ap, ap₂, arith}
use Rattle.std.specs.List.{All, flat_map, sum}
use Rattle.std.proofs.lemmas.List.{drop_all, drop_at, length-map, take_at, get_or-map, get_or_default}
use Rattle.std.proofs.lemmas.List.Elements.{All-map}
use Rattle.std.proofs.lemmas.List.Sums.{sum_by-cons}
use Rattle.pef_hash.specs.Build.{built, count_before, count_in, keys_at, names_in, slot_words}
use Rattle.pef_hash.specs.Word.{hash_word, least_power}
use Rattle.pef_hash.proofs.Laws.{count_before-past, slot_words-at}
use Rattle.pef_hash.proofs.Laws.{ordered_name}
use Rattle.pef_hash.proofs.Laws.{least_power-most}
use Rattle.pef_hash.proofs.Laws.{length-in_slots}
use Rattle.pef_format.specs.Exports.{Export}
use Rattle.pef_script.specs.Script.{DescribedScript, export_names}
use Rattle.pef_write.proofs.Listing.{finished, mapped-all, none_past}
use Rattle.pef_script.specs.Limits.{longest_name}

-- the bytes of some names, one after the other
abbrev pub joined : List (List ℕ) → List ℕ
joined names = flat_map (λ name. name) names

-- names are told apart by their lengths
pub names_in-joined : (names : List (List ℕ)) → names_in (joined names) (map length names) ≡ names
names_in-joined [] = refl
names_in-joined (name ∷ names) =
    let here = take_at name (joined names) (length name) refl in
    let rest = drop_at name (joined names) (length name) refl in
    ap₂ (λ a b. a ∷ b) here (ap (λ bytes. names_in bytes (map length names)) rest ∙ names_in-joined names)

pub sum-joined : (names : List (List ℕ)) → sum (map length names) ≡ length (joined names)
sum-joined [] = refl
sum-joined (name ∷ names) =
    omega (arith, sum_by-cons (λ n. n) (length name) (map length names), length-append name (joined names), sum-joined names)

-- if no name is left, all bytes and all lengths are there
pub all_joined : (names : List (List ℕ)) (k : ℕ) (bytes lengths : List ℕ) → slice_get names k ≡ None → bytes ++ joined (drop k names) ≡ joined names → lengths ++ map length (drop k names) ≡ map length names
    → (bytes ≡ joined names) × (lengths ≡ map length names)
all_joined names k bytes lengths none bytes_are lengths_are =
    let past = none_past names k none in
    (finished bytes (joined (drop k names)) (joined names) (ap joined (drop_all k names past)) bytes_are, mapped-all length names k lengths (map length names) past lengths_are)

-- the power of a table
pub power_small : (names : List (List ℕ)) → (built names).power ≤ 16
unfolding built
power_small names = omega (arith, least_power-most (length names) 0 16)

-- as many keys and places as names
pub length-order : (names : List (List ℕ)) → length (built names).order ≡ length names
unfolding built
length-order names = length-in_slots (least_power (length names) 0 16) (map hash_word names) ∙ length-map names hash_word

pub length-keys : (names : List (List ℕ)) → length (built names).keys ≡ length names
unfolding built keys_at
length-keys names = length-map (built names).order (λ i. get_or (map hash_word names) i 0) ∙ length-order names

-- as many slot words as slots
length-slot_words : (power : ℕ) (words : List ℕ) (s first n : ℕ) → length (slot_words power words s first n) ≡ n
length-slot_words power words s first zero = refl
length-slot_words power words s first (suc n) = ap suc (length-slot_words power words (s + 1) _ n)

pub length-slots : (names : List (List ℕ)) → length (built names).slots ≡ 2 ^ (built names).power
unfolding built
length-slots names = length-slot_words (least_power (length names) 0 16) (map hash_word names) 0 0 (2 ^ least_power (length names) 0 16)

-- each place is that of a name
pub places_below : (names : List (List ℕ)) → All (λ e. e < length names) (built names).order
places_below names k d under =
    let inside : k < length names = omega (arith, length-order names) in
    rw (get_or_default (built names).order k d 0 under) (ordered_name names k inside)

-- .. and so that of an export
pub order_below : (s : DescribedScript) → All (λ e. e < length s.exports) (built (export_names s)).order
order_below s =
    let count : length (export_names s) ≡ length s.exports = length-map s.exports (λ (symbol : Export). symbol.name) in
    rw (← count) (places_below (export_names s))

-- slot words and keys have 32 bits
slot_small : (power k : ℕ) (words : List ℕ) → length words < 2 ^ 14 → k < 2 ^ power → get_or (slot_words power words 0 0 (2 ^ power)) k 0 < 2 ^ 32
slot_small power k words few under =
    let e : 0 + k ≡ k = omega arith in
    let word : get_or (slot_words power words 0 0 (2 ^ power)) k 0 ≡ count_in power words k * 2 ^ 18 + (0 + count_before power words 0 k) =
    slot_words-at power words 0 0 (2 ^ power) k under ∙ ap (λ s. count_in power words s * 2 ^ 18 + (0 + count_before power words 0 k)) e in
    let past = count_before-past power words k (2 ^ power) under in
    let all : count_before power words 0 (2 ^ power) ≡ length words = length-in_slots power words in
    omega (arith, word, past, all)

pub slots_small : (names : List (List ℕ)) → length names < 2 ^ 14 → All (λ w. w < 2 ^ 32) (built names).slots
unfolding built
slots_small names few k d under =
    let power = least_power (length names) 0 16 in
    let words = map hash_word names in
    let count = length-slot_words power words 0 0 (2 ^ power) in
    rw (get_or_default (built names).slots k d 0 under) (slot_small power k words (omega (arith, length-map names hash_word)) (omega (arith, count)))

hash_small : (name : List ℕ) → length name ≤ longest_name → hash_word name < 2 ^ 32
unfolding hash_word
hash_small name short = omega arith

pub keys_small : (names : List (List ℕ)) → All (λ name. length name ≤ longest_name) names → All (λ w. w < 2 ^ 32) (built names).keys
unfolding built keys_at
keys_small names short =
    All-map (λ w. w < 2 ^ 32) (λ i. get_or (map hash_word names) i 0) (built names).order
    (λ k d under. let e = get_or (built names).order k d in
    let inside : e < length names = places_below names k d under in
    rw (get_or-map hash_word names e [] 0 inside) (hash_small (get_or names e []) (short e [] inside)))
