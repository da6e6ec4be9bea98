-- The test of a table finds out whether it is regular.
use Rattle.std.proofs.Common.{◌≡◌, ℕ, suc, zero, ◌+◌, ◌*◌, ◌/◌, ◌^◌, ◌<◌, ◌≤◌, inl, inr, List, Option, None, Some, length, drop, take, refl, sym, ap, ◌∙◌, arith}
use Rattle.std.specs.Prelude.{IsTrue, ◌&&◌, nat_le, nat_lt, true}
use Rattle.std.proofs.lemmas.Bool.{leb-true, le-leb, lt-ltb}
use Rattle.std.proofs.lemmas.Bool.Decides.{eqb_tells, leb_tells}
use Rattle.std.proofs.lemmas.List.{length-drop, length-take-le}
use Rattle.std.proofs.lemmas.Option.{cond_some, same_Some}
use Rattle.byteorder.specs.Endian.{big_number}
use Rattle.pef_words.specs.Bytes.{part_of}
use Rattle.pef_words.specs.Refusals.{◌>>=◌}
use Rattle.pef_hash.specs.Exports.{Entry, ExportTable, entry_of, has_table, key_of, name_of, slot_count, slot_first, slot_word_of}
use Rattle.pef_hash.specs.Regular.{IsCounted, IsRegular, IsSearchable, names_length}
use Rattle.pef_hash.specs.Word.{hash_word, slot}
use Rattle.pef_hash.specs.Kept.Searches.{IsCountedBefore, IsEndOf, leads_to}
use Rattle.pef_hash.proofs.RegularLemmas.{regular_ends_inside}
use Rattle.pef_hash.proofs.Tables.{number_there, table_whole}

-- if there are exports, each slot is there
pub slot_there : (t : ExportTable) (s : ℕ) → IsTrue (has_table t.power t.count t.bytes) → 0 < t.count → s < 2 ^ t.power → slot_word_of t s ≡ Some (big_number 4 (drop (4 * s) t.bytes))
unfolding slot_word_of
slot_there t s whole some under =
    let all = table_whole t.power t.count 0 t.bytes whole some in
    let word = number_there 4 t.bytes (4 * s) (omega arith) in
    rw (lt-ltb s (2 ^ t.power) under, word) refl

-- .. and each key
pub key_there : (t : ExportTable) (i : ℕ) → IsTrue (has_table t.power t.count t.bytes) → i < t.count → key_of t i ≡ Some (big_number 4 (drop (4 * 2 ^ t.power + 4 * i) t.bytes))
unfolding key_of
key_there t i whole under =
    let all = table_whole t.power t.count i t.bytes whole under in
    let key = number_there 4 t.bytes (4 * 2 ^ t.power + 4 * i) (omega arith) in
    rw (lt-ltb i t.count under, key) refl

-- a name is no longer than its key can express
part-length : (bytes : List ℕ) (from n : ℕ) (part : List ℕ) → part_of bytes from n ≡ Some part → length part ≡ n
unfolding part_of
part-length bytes from n part is =
    let met = cond_some (nat_le (from + n) (length bytes)) (take n (drop from bytes)) part is in
    let within = leb-true (from + n) (length bytes) met.0 in
    let rest = length-drop from bytes in
    ap length (sym met.1) ∙ length-take-le n (drop from bytes) (omega arith)

entry_part : (e : Option Entry) (strings : List ℕ) (n : ℕ) (name : List ℕ) → (e >>= (λ entry. part_of strings entry.name n)) ≡ Some name → length name ≡ n
entry_part None strings n name is = absurd (cc)
entry_part (Some e) strings n name is = part-length strings e.name n name is

pub name_short : (t : ExportTable) (i key : ℕ) (name : List ℕ) → key_of t i ≡ Some key → name_of t i ≡ Some name → key < 2 ^ 32 → length name < 2 ^ 16
unfolding name_of
name_short t i key name key_is is small =
    let read = rw key_is at is in
    let same = entry_part (entry_of t i) t.strings (key / 2 ^ 16) name read in
    omega arith

-- the length of the names of one export more, and of all
pub names_length-next : (t : ExportTable) (i : ℕ) (name : List ℕ) → name_of t i ≡ Some name → names_length t (i + 1) ≡ names_length t i + length name
unfolding names_length
names_length-next t i name is =
    let e : i + 1 ≡ suc i = omega arith in
    rw (e, is) refl

pub names_length-most : (t : ExportTable) (i n : ℕ) → i ≤ n → names_length t i ≤ names_length t n
unfolding names_length
names_length-most t i zero low = let e : i ≡ 0 = omega arith in rw e (omega arith)
names_length-most t i (suc n) low =
    elim (leb_tells i n) [
      | inl within ↦ (let less = names_length-most t i n within.1 in omega arith)
      | inr past ↦ (let beyond = past.1 in let e : i ≡ suc n = omega arith in rw e (omega arith))
    ]

-- the key of an export of a regular table is the hash word of its name
pub regular_key : (t : ExportTable) (i : ℕ) (name : List ℕ) → IsRegular t → i < t.count → name_of t i ≡ Some name → key_of t i ≡ Some (hash_word name)
regular_key t i name regular under is =
    let keyed = regular.keyed i under in
    let same : keyed.0 ≡ name = same_Some keyed.0 name (sym keyed.1 ∙ is) in
    rw (← same) keyed.2

-- and the slot of that hash word counts it
pub regular_counts : (t : ExportTable) (s word i key : ℕ) → IsRegular t → slot_word_of t s ≡ Some word → key_of t i ≡ Some key → slot key t.power ≡ s → IsCounted word i
regular_counts t s word i key regular there is here = (regular.delimited s word i there).1 (record { key = key; is = is; here = here })

-- an earlier slot of a regular table counts earlier places
pub counted_after : (t : ExportTable) (s word i e : ℕ) → IsRegular t → IsCountedBefore t s e → slot_word_of t s ≡ Some word → IsCounted word i → e < i
counted_after t s word i e regular b there counted =
    let here = (regular.delimited s word i there).0 counted in
    let last = (regular.delimited b.r b.word e b.is).0 b.counted in
    let before = b.before in
    let here_is = here.here in
    let last_is = last.here in
    elim (leb_tells i e) [
      | inl low ↦ elim (eqb_tells i e) [
        | inl same ↦ (
            let key : key_of t i ≡ Some last.key = rw same.1 last.is in
            let one : here.key ≡ last.key = same_Some here.key last.key (sym here.is ∙ key) in
            let slots : slot here.key t.power ≡ slot last.key t.power = ap (λ k. slot k t.power) one in
            absurd (omega arith))
        | inr other ↦ (
            let apart = other.1 in
            let below = low.1 in
            let rise = regular.ordered i e here.key last.key (omega arith) here.is last.is in
            absurd (omega arith))
      ]
      | inr behind ↦ behind.1
    ]

-- the places of a slot that counts some begin at or after an end, and end inside
pub begins_after : (t : ExportTable) (s word end : ℕ) → IsSearchable t → IsEndOf t s end → slot_word_of t s ≡ Some word → 0 < slot_count word → end ≤ slot_first word
begins_after t s word zero sought ends there some = omega arith
begins_after t s word (suc e) sought ends there some =
    let counted : IsCounted word (slot_first word) = record { low = omega arith; high = omega arith } in
    let behind = counted_after t s word (slot_first word) e sought.regular (ends e (omega arith)) there counted in
    omega arith

pub ends_inside : (t : ExportTable) (s word : ℕ) → IsSearchable t → slot_word_of t s ≡ Some word → 0 < slot_count word → slot_first word + slot_count word ≤ t.count
ends_inside t s word sought there some = regular_ends_inside t s word sought.regular there some

pub end_kept : (t : ExportTable) (s end : ℕ) → IsEndOf t s end → IsEndOf t (s + 1) end
end_kept t s end ends = λ i is.
    let b = ends i is in
    let before = b.before in
    record { r = b.r; word = b.word; before = omega arith; is = b.is; counted = b.counted }

pub end_moved : (t : ExportTable) (s word : ℕ) → slot_word_of t s ≡ Some word → 0 < slot_count word → IsEndOf t (s + 1) (slot_first word + slot_count word)
end_moved t s word there some = λ i is. record {
  r = s;
  word = word;
  before = omega arith;
  is = there;
  counted = record { low = omega arith; high = omega arith };
}

-- a slot word leads to the places that it counts
pub leads_is : (o : Option ℕ) (word i start end : ℕ) → o ≡ Some word → start ≡ slot_first word → end ≡ slot_first word + slot_count word → leads_to o i ≡ (nat_le start i && nat_lt i end)
leads_is o word i start end is starts ends = rw (is, starts, ends) refl

pub counts_true : (word i start end : ℕ) → IsCounted word i → start ≡ slot_first word → end ≡ slot_first word + slot_count word → (nat_le start i && nat_lt i end) ≡ true
counts_true word i start end counted starts ends =
    let low = counted.low in
    let high = counted.high in
    rw (le-leb start i (omega arith), lt-ltb i end (omega arith)) refl

-- the names of no exports have no bytes
pub names_length-none : (t : ExportTable) → names_length t 0 ≡ 0
unfolding names_length
names_length-none t = refl
