-- Tables whose slots lead to their exports.
use Rattle.std.proofs.Common.{◌≡◌, ℕ, false, ◌+◌, ◌-◌, ◌^◌, ◌<◌, ◌≤◌, inl, inr, List, Option, None, Some, length, refl, sym, ap, ◌∙◌, arith}
use Rattle.std.specs.Prelude.{IsTrue, nat_le, nat_lt}
use Rattle.std.proofs.lemmas.Bool.{and_parts, false_from_ne_true, leb-true, ltb-true}
use Rattle.std.proofs.lemmas.Bool.Decides.{eqb_tells, leb_tells}
use Rattle.std.proofs.lemmas.Slice.Eq.{bytes_eq-Decides}
use Rattle.std.proofs.lemmas.Option.{same_Some}
use Rattle.std.specs.Option.{option_map_or}
use Rattle.std.specs.Str.{bytes_eq}
use Rattle.pef_words.specs.Refusals.{◌>>=◌, first_among}
use Rattle.pef_words.proofs.Laws.Refusals.{first_among-at, first_among-none, none_among, some_among}
use Rattle.pef_hash.specs.Exports.{ExportTable, export_named, is_named, key_of, name_of, named_at, slot_count, slot_first, slot_word_of}
use Rattle.pef_hash.specs.Regular.{IsCounted, IsRegular}
use Rattle.pef_hash.specs.Word.{hash_word, slot}
use Rattle.pef_hash.specs.Kept.Searches.{AreInTurnTo, AreSlotsInTurn, IsHashed, LeadsToAll, leads_to}
use Rattle.pef_hash.proofs.NamedExports.{named_only}
use Rattle.pef_hash.proofs.RegularLemmas.{key_inside, slot_inside}

none_of : {A : Type 0} (o : Option A) → ((x : A) → o ≡ Some x → ⊥) → o ≡ None
none_of None not = refl
none_of (Some x) not = absurd (not x refl)

bind_some : {A B : Type 0} (o : Option A) (f : A → Option B) (x : B) → (o >>= f) ≡ Some x → (y : A) × (o ≡ Some y)
bind_some None f x is = absurd (cc)
bind_some (Some y) f x is = (y, refl)

-- an export with a name is one of the table
pub named_inside : (t : ExportTable) (name : List ℕ) (i : ℕ) → name_of t i ≡ Some name → i < t.count
unfolding name_of
named_inside t name i is =
    let key = bind_some (key_of t i) _ name is in
    key_inside t i key.0 key.1

-- an export without the name isn't found
pub unnamed : (t : ExportTable) (name : List ℕ) (i : ℕ) → (name_of t i ≡ Some name → ⊥) → named_at t name i ≡ None
unnamed t name i not = none_of (named_at t name i) (λ x is. not (named_only (name_of t i) name i x is).1)

-- past the exports none has it
pub past_exports : (t : ExportTable) (name : List ℕ) (i n : ℕ) → t.count ≤ i → first_among (named_at t name) i n ≡ None
past_exports t name i n past = first_among-none (named_at t name) i n (λ k low high. unnamed t name k (λ named. absurd (let below = named_inside t name k named in omega arith)))

-- a slot word that leads to an export counts it
leads_counts : (word i : ℕ) → IsTrue (leads_to (Some word) i) → IsCounted word i
leads_counts word i leads =
    let both = and_parts (nat_le (slot_first word) i) (nat_lt i (slot_first word + slot_count word)) leads in
    record { low = leb-true (slot_first word) i both.0; high = ltb-true i (slot_first word + slot_count word) both.1 }

leads_word : (o : Option ℕ) (word i : ℕ) → o ≡ Some word → IsTrue (leads_to o i) → IsCounted word i
leads_word o word i is leads = leads_counts word i (rw is at leads)

leads_nowhere : (o : Option ℕ) (i : ℕ) → o ≡ None → IsTrue (leads_to o i) → ⊥
leads_nowhere o i is leads = let no = rw is at leads in absurd (cc)

-- the exports that a slot word doesn't lead to
past_places : (t : ExportTable) (name : List ℕ) (word i : ℕ) → LeadsToAll t → slot_word_of t (slot (hash_word name) t.power) ≡ Some word → (IsCounted word i → ⊥) → named_at t name i ≡ None
past_places t name word i leads is not = unnamed t name i (λ named. not (leads_word _ word i is (leads i name named).1))

unnamed_false : (o : Option (List ℕ)) (name : List ℕ) → (o ≡ Some name → ⊥) → option_map_or (λ found. bytes_eq found name) o false ≡ false
unnamed_false None name not = refl
unnamed_false (Some found) name not = false_from_ne_true (bytes_eq found name) (λ same. not (ap Some ((bytes_eq-Decides found name).0 same)))

-- an export with another key has another name
pub unkeyed : (t : ExportTable) (name : List ℕ) (word i key : ℕ) → LeadsToAll t → word ≡ hash_word name → key_of t i ≡ Some key → (key ≡ word → ⊥) → is_named t name i ≡ false
unkeyed t name word i key leads is keyed other =
    unnamed_false (name_of t i) name (λ named. other (same_Some key word (sym keyed ∙ (leads i name named).2 ∙ ap Some (sym is))))

-- no export has a name that is too long, or whose slot doesn't exist
pub long_none : (t : ExportTable) (name : List ℕ) → LeadsToAll t → 2 ^ 16 ≤ length name → export_named t name ≡ None
unfolding export_named
long_none t name leads long =
    first_among-none (named_at t name) 0 t.count (λ i low high. unnamed t name i (λ named. let short = (leads i name named).0 in absurd (omega arith)))

pub slotless_none : (t : ExportTable) (name : List ℕ) → LeadsToAll t → slot_word_of t (slot (hash_word name) t.power) ≡ None → export_named t name ≡ None
unfolding export_named
slotless_none t name leads none =
    first_among-none (named_at t name) 0 t.count (λ i low high. unnamed t name i (λ named. leads_nowhere _ i none (leads i name named).1))

-- the first export of a name is the first among those that its slot counts
first_in_places : (t : ExportTable) (name : List ℕ) (word : ℕ) (o : Option ℕ) → LeadsToAll t → slot_word_of t (slot (hash_word name) t.power) ≡ Some word
    → first_among (named_at t name) (slot_first word) (slot_first word + slot_count word - slot_first word) ≡ o → o ≡ first_among (named_at t name) 0 t.count
first_in_places t name word None leads is none =
    sym (first_among-none (named_at t name) 0 t.count (λ i low high.
    elim (leb_tells (slot_first word) i) [
      | inl from ↦ (let l = from.1 in elim (leb_tells (slot_first word + slot_count word) i) [
        | inl beyond ↦ past_places t name word i leads is (λ counted. absurd (let a = counted.high in let b = beyond.1 in omega arith))
        | inr within ↦ (let w = within.1 in none_among (named_at t name) (slot_first word) (slot_first word + slot_count word - slot_first word) i none l (omega arith))
      ])
      | inr before ↦ past_places t name word i leads is (λ counted. absurd (let a = counted.low in let b = before.1 in omega arith))
    ]))
first_in_places t name word (Some x) leads is some =
    let r = some_among (named_at t name) (slot_first word) (slot_first word + slot_count word - slot_first word) x some in
    let under : r.at < t.count = named_inside t name r.at (named_only (name_of t r.at) name r.at x r.is).1 in
    let e : 0 + r.at ≡ r.at = omega arith in
    sym (first_among-at (named_at t name) 0 t.count r.at x under (λ i low high.
    elim (leb_tells (slot_first word) i) [
      | inl from ↦ r.before i from.1 (omega arith)
      | inr before ↦ past_places t name word i leads is (λ counted. absurd (let a = counted.low in let b = before.1 in omega arith))
    ]) (rw e r.is))

pub chain_named : (t : ExportTable) (name : List ℕ) (word : ℕ) → LeadsToAll t → slot_word_of t (slot (hash_word name) t.power) ≡ Some word
    → first_among (named_at t name) (slot_first word) (slot_first word + slot_count word - slot_first word) ≡ export_named t name
unfolding export_named
chain_named t name word leads is = first_in_places t name word _ leads is refl

-- if each key is hashed, the slots lead to all exports
pub hashed_leads : (t : ExportTable) → ((i : ℕ) → i < t.count → IsHashed t i) → LeadsToAll t
hashed_leads t hashed = λ i name named.
    let h = hashed i (named_inside t name i named) in
    let same : h.name ≡ name = same_Some h.name name (sym h.named ∙ named) in
    (rw (← same) h.short, rw (← same) h.leads, rw (← same) h.key)

-- the slot of a key is there and counts it
record IsSlotted (t : ExportTable) (i k : ℕ) : Type 0 where
  word : ℕ
  is : slot_word_of t (slot k t.power) ≡ Some word
  counted : IsCounted word i

leads_there : (o : Option ℕ) (i : ℕ) → IsTrue (leads_to o i) → (word : ℕ) × (o ≡ Some word)
leads_there None i leads = absurd (cc)
leads_there (Some word) i leads = (word, refl)

slotted : (t : ExportTable) (i k : ℕ) → ((i : ℕ) → i < t.count → IsHashed t i) → key_of t i ≡ Some k → IsSlotted t i k
slotted t i k hashed key =
    let h = hashed i (key_inside t i k key) in
    let same : hash_word h.name ≡ k = same_Some (hash_word h.name) k (sym h.key ∙ key) in
    let leads : IsTrue (leads_to (slot_word_of t (slot k t.power)) i) = rw (← same) h.leads in
    let there = leads_there (slot_word_of t (slot k t.power)) i leads in
    record { word = there.0; is = there.1; counted = leads_word _ there.0 i there.1 leads }

-- an export of a slot has a key of that slot
same_slot : (t : ExportTable) (s word i k : ℕ) → AreSlotsInTurn t → slot_word_of t s ≡ Some word → IsCounted word i → IsSlotted t i k → slot k t.power ≡ s
same_slot t s word i k turn there counted p =
    elim (leb_tells s (slot k t.power)) [
      | inl low ↦ elim (leb_tells (slot k t.power) s) [
        | inl high ↦ (let a = low.1 in let b = high.1 in omega arith)
        | inr behind ↦ absurd (let less = turn.turn s (slot k t.power) word p.word i i behind.1 (slot_inside t (slot k t.power) p.word p.is) there p.is counted p.counted in omega arith)
      ]
      | inr before ↦ absurd (let less = turn.turn (slot k t.power) s p.word word i i before.1 (slot_inside t s word there) p.is there p.counted counted in omega arith)
    ]

-- if slots count in turn and each key is hashed, a table is regular
pub turn_regular : (t : ExportTable) → AreSlotsInTurn t → ((i : ℕ) → i < t.count → IsHashed t i) → IsRegular t
turn_regular t turn hashed = record {
  keyed = λ i under. let h = hashed i under in (h.name, h.named, h.key);
  ordered = λ i j k l before ki lj. let p = slotted t i k hashed ki in let q = slotted t j l hashed lj in
      elim (leb_tells (slot k t.power) (slot l t.power)) [
        | inl low ↦ low.1
        | inr behind ↦ absurd (let less = turn.turn (slot l t.power) (slot k t.power) q.word p.word j i behind.1 (slot_inside t (slot k t.power) p.word p.is) q.is p.is q.counted p.counted in omega arith)
      ];
  delimited = λ s word i there. (
    (λ counted. let under = turn.before s word i (slot_inside t s word there) there counted in
        let h = hashed i under in
        record { key = hash_word h.name; is = h.key; here = same_slot t s word i (hash_word h.name) turn there counted (slotted t i (hash_word h.name) hashed h.key) }),
    (λ at. let p = slotted t i at.key hashed at.is in
        let same : p.word ≡ word = same_Some p.word word (sym p.is ∙ rw at.here there) in
        rw (← same) p.counted),
  );
}

-- what one more slot counts lies from an old end to a new one
counts_between : (t : ExportTable) (s word old end : ℕ) → slot_word_of t s ≡ Some word → ((i : ℕ) → IsCounted word i → (old ≤ i) × (i < end)) → old ≤ end → AreInTurnTo t s old → AreInTurnTo t (s + 1) end
counts_between t s word old end there between rise turn = record {
  before = λ r v i less is counted. elim (eqb_tells r s) [
    | inl same ↦ (let e : slot_word_of t s ≡ Some v = rw same.1 at is in
        let w : v ≡ word = same_Some v word (sym e ∙ there) in
        (between i (rw w at counted)).1)
    | inr other ↦ (let apart = other.1 in let low = turn.before r v i (omega arith) is counted in omega arith)
  ];
  turn = λ q r v w i j before less is is' counted counted'. elim (eqb_tells r s) [
    | inl same ↦ (let at = same.1 in let e : slot_word_of t s ≡ Some w = rw same.1 at is' in
        let e' : w ≡ word = same_Some w word (sym e ∙ there) in
        let low = turn.before q v i (omega arith) is counted in
        let high = (between j (rw e' at counted')).0 in
        omega arith)
    | inr other ↦ (let apart = other.1 in turn.turn q r v w i j before (omega arith) is is' counted counted')
  ];
}

pub turn_empty : (t : ExportTable) (s word end : ℕ) → slot_word_of t s ≡ Some word → slot_count word ≡ 0 → AreInTurnTo t s end → AreInTurnTo t (s + 1) end
turn_empty t s word end there none turn =
    counts_between t s word end end there (λ i counted. absurd (let low = counted.low in let high = counted.high in omega arith)) (omega arith) turn

pub turn_more : (t : ExportTable) (s word old : ℕ) → slot_word_of t s ≡ Some word → old ≤ slot_first word → AreInTurnTo t s old → AreInTurnTo t (s + 1) (slot_first word + slot_count word)
turn_more t s word old there behind turn =
    counts_between t s word old (slot_first word + slot_count word) there (λ i counted. let low = counted.low in let high = counted.high in (omega arith, omega arith)) (omega arith) turn

-- the same holds at a later end
pub turn_all : (t : ExportTable) (s end count : ℕ) → end ≤ count → AreInTurnTo t s end → AreInTurnTo t s count
turn_all t s end count below turn = record {
  before = λ r v i less is counted. let low = turn.before r v i less is counted in omega arith;
  turn = turn.turn;
}

pub chain_found : (t : ExportTable) (name : List ℕ) (word start end : ℕ) → LeadsToAll t → slot_word_of t (slot (hash_word name) t.power) ≡ Some word → start ≡ slot_first word → end ≡ slot_first word + slot_count word
    → first_among (named_at t name) start (end - start) ≡ export_named t name
chain_found t name word start end leads is starts ends = rw (starts, ends) (chain_named t name word leads is)
