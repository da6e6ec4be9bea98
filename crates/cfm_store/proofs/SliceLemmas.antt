-- Which slice a table of names keeps for a name: the first pair's own.
use Rattle.std.proofs.Common.{◌≡◌, ℕ, ◌+◌, ◌<◌, Bool, true, false, cond, List, [], ◌∷◌, ◌++◌, length, map, Option, None, Some, Bor, option_map, refl, sym, ap, ◌∙◌, subst, inl, inr, arith, get_or, set}
use Rattle.std.specs.Map.{lookup_key, remove_entry}
use Rattle.std.specs.Option.{option_and_then, option_or}
use Rattle.std.specs.Prelude.{is_some}
use Rattle.std.specs.Str.{bytes_eq}
use Rattle.std.proofs.lemmas.Bool.Decides.{eqb_tells}
use Rattle.std.proofs.lemmas.List.{get_or-set_other, get_or-set_same, get_or_append_left, get_or_push, length-map, map-set, map_push}
use Rattle.std.proofs.lemmas.Slice.Eq.{bytes_eq-Decides}
use Rattle.indexmap.specs.IndexMap.{insert_entry}
use Rattle.pef_names.specs.declared.name_key.NameKey.{NameKey}
use Rattle.cfm_store.specs.Stores.{Pair, is_named, no_pair, place_of}
use Rattle.cfm_store.specs.Seen.{place_seen}
use Rattle.cfm_store.specs.Places.{ArePlaces, NotesSlice, place_in, slice_in}
use Rattle.cfm_store.specs.Kept.Places.{SetsSlice, slice_at, slice_of}
use Rattle.cfm_store.proofs.PlaceLemmas.{IsFreeFor, if_met, named-name, none_if, place_from-push, place_of-below, place_of-met, place_of-removed, place_of-set, place_of-taken, place_of-there, free-unnamed, other-unnamed}

-- what a place of a store has
abbrev pub Place : Type 0
Place = Option (Bor (List ℕ) × Bor (List ℕ))

abbrev same_key : NameKey → NameKey → Bool
same_key x y = bytes_eq x.bytes.now y.bytes.now

abbrev shown : Option NameKey → Option (Bor (List ℕ))
shown o = option_map (λ (k : NameKey). k.bytes) o

-- the slice, if it spells a name
abbrev if_named : List ℕ → Bor (List ℕ) → Option (Bor (List ℕ))
if_named other name = cond (bytes_eq other name.now) (Some name) None

bytes_apart : (a b : List ℕ) → bytes_eq a b ≡ false → bytes_eq b a ≡ false
bytes_apart a b apart = by (bytes_eq b a) refl
  where
    by : (t : Bool) → bytes_eq b a ≡ t → t ≡ false
    by true same = sym ((bytes_eq-Decides a b).1 (sym ((bytes_eq-Decides b a).0 same))) ∙ apart
    by false apart' = refl

or-none : (o : Option (Bor (List ℕ))) (b : Bool) (x : Bor (List ℕ)) → b ≡ false → option_or o (cond b (Some x) None) ≡ o
or-none None b x none = ap (λ b. cond b (Some x) None) none
or-none (Some y) b x none = refl

or-some : (o x : Option (Bor (List ℕ))) → is_some o ≡ true → option_or o x ≡ o
or-some None x some = absurd (cc)
or-some (Some y) x some = refl

-- the slice of a key if it is the name's, or else the one that the rest of a table keeps
abbrev first_of : {V : Type 0} → NameKey → List ℕ → Bool → List (NameKey × V) → Option (Bor (List ℕ))
first_of k other b rest = shown (cond b (Some k) (lookup_key (λ (k : NameKey). bytes_eq other k.bytes.now) rest))

-- a table without the entry of a name
abbrev without : {V : Type 0} → List ℕ → List (NameKey × V) → List (NameKey × V)
without name es = remove_entry (λ (k : NameKey). bytes_eq name k.bytes.now) es

module _ {V : Type 0} where
  -- a table that has a place for a name keeps a slice of it
  slice-there : (es : List (NameKey × V)) (name : List ℕ) → is_some (slice_in es name) ≡ is_some (place_in es name)
  slice-there [] name = refl
  slice-there (e ∷ es) name = by (bytes_eq name e.0.bytes.now) (slice-there es name)
    where
      by : (b : Bool) → is_some (slice_in es name) ≡ is_some (place_in es name) → is_some (shown (cond b (Some e.0) (lookup_key (λ (k : NameKey). bytes_eq name k.bytes.now) es))) ≡ is_some (cond b (Some e.1) (place_in es name))
      by true later = refl
      by false later = later

  pub slice-none : (es : List (NameKey × V)) (name : List ℕ) → place_in es name ≡ None → slice_in es name ≡ None
  slice-none es name none = none_if (slice_in es name) (slice-there es name ∙ ap is_some none)

  -- an entry that is inserted keeps the slice that the name has, or else this one
  pub slice-insert : (key : NameKey) (v : V) (es : List (NameKey × V)) → NotesSlice es key.bytes (insert_entry same_key es key v)
  slice-insert key v [] other = by (bytes_eq other key.bytes.now)
    where
      by : (b : Bool) → shown (cond b (Some key) None) ≡ option_or None (cond b (Some key.bytes) None)
      by true = refl
      by false = refl
  slice-insert key v (e ∷ es) other = by (bytes_eq key.bytes.now e.0.bytes.now) (bytes_eq other e.0.bytes.now) refl refl (slice-insert key v es other)
    where
      by : (here at : Bool) → bytes_eq key.bytes.now e.0.bytes.now ≡ here → bytes_eq other e.0.bytes.now ≡ at
          → slice_in (insert_entry same_key es key v) other ≡ option_or (slice_in es other) (if_named other key.bytes)
          → slice_in (cond here ((e.0, v) ∷ es) (e ∷ insert_entry same_key es key v)) other ≡ option_or (first_of e.0 other at es) (if_named other key.bytes)
      by true true same is later = ap (λ b. first_of e.0 other b es) is
      by true false same is later =
          ap (λ b. first_of e.0 other b es) is
          ∙ sym (or-none (slice_in es other) (bytes_eq other key.bytes.now) key.bytes (ap (bytes_eq other) ((bytes_eq-Decides key.bytes.now e.0.bytes.now).0 same) ∙ is))
      by false true apart is later = ap (λ b. first_of e.0 other b (insert_entry same_key es key v)) is
      by false false apart is later = ap (λ b. first_of e.0 other b (insert_entry same_key es key v)) is ∙ later

  -- one that is removed leaves the others
  pub slice-removed : (name : List ℕ) (es : List (NameKey × V)) (other : List ℕ) → bytes_eq name other ≡ false → slice_in (without name es) other ≡ slice_in es other
  slice-removed name [] other apart = refl
  slice-removed name (e ∷ es) other apart = by (bytes_eq name e.0.bytes.now) (bytes_eq other e.0.bytes.now) refl refl (slice-removed name es other apart)
    where
      by : (here at : Bool) → bytes_eq name e.0.bytes.now ≡ here → bytes_eq other e.0.bytes.now ≡ at → slice_in (without name es) other ≡ slice_in es other → slice_in (cond here es (e ∷ without name es)) other ≡ slice_in (e ∷ es) other
      by true at same is later = sym (ap (λ b. first_of e.0 other b es) (ap (bytes_eq other) (sym ((bytes_eq-Decides name e.0.bytes.now).0 same)) ∙ bytes_apart name other apart))
      by false true apart is later = ap (λ b. first_of e.0 other b (without name es)) is ∙ sym (ap (λ b. first_of e.0 other b es) is)
      by false false apart is later = ap (λ b. first_of e.0 other b (without name es)) is ∙ later ∙ sym (ap (λ b. first_of e.0 other b es) is)

  -- a name that is known keeps its slice
  pub slice-known : (es new : List (NameKey × V)) (name : Bor (List ℕ)) → is_some (place_in es name.now) ≡ true → new ≡ es → NotesSlice es name new
  slice-known es new name there is other = ap (λ es. slice_in es other) is ∙ by (bytes_eq other name.now) refl
    where
      by : (b : Bool) → bytes_eq other name.now ≡ b → slice_in es other ≡ option_or (slice_in es other) (cond b (Some name) None)
      by true same = sym (or-some (slice_in es other) (Some name) (ap (λ n. is_some (slice_in es n)) ((bytes_eq-Decides other name.now).0 same) ∙ slice-there es name.now ∙ there))
      by false apart = sym (or-none (slice_in es other) false name refl)

  -- a name that isn't known gets this slice
  pub slice-new : (es new : List (NameKey × V)) (name : Bor (List ℕ)) (own : List ℕ) → NotesSlice es name new → name.now ≡ own → place_in es own ≡ None → SetsSlice es own (Some name) new
  slice-new es new name own notes is none = record {
    own_slice = notes own
        ∙ ap (λ o. option_or o (if_named own name)) (slice-none es own none)
        ∙ ap (λ b. cond b (Some name) None) ((bytes_eq-Decides own name.now).1 (sym is));
    other_slices = λ other apart. notes other ∙ or-none (slice_in es other) (bytes_eq other name.now) name (ap (bytes_eq other) is ∙ bytes_apart own other apart);
  }

  pub slice-then : (es mid new : List (NameKey × V)) (name : List ℕ) (slice : Option (Bor (List ℕ))) → ((other : List ℕ) → bytes_eq name other ≡ false → slice_in mid other ≡ slice_in es other) → SetsSlice mid name slice new → SetsSlice es name slice new
  slice-then es mid new name slice kept sets = record { own_slice = sets.own_slice; other_slices = λ other apart. sets.other_slices other apart ∙ kept other apart }

-- the slice of a name's first pair stays if its place and the pair there do
slice_of-same : (old new : List Place) (name : List ℕ) → place_of (map place_seen new) name ≡ place_of (map place_seen old) name → ((q : ℕ) → place_of (map place_seen old) name ≡ Some q → slice_at new q ≡ slice_at old q) → slice_of new name ≡ slice_of old name
slice_of-same old new name same kept = ap (option_and_then (slice_at new)) same ∙ by (place_of (map place_seen old) name) refl
  where
    by : (o : Option ℕ) → place_of (map place_seen old) name ≡ o → option_and_then (slice_at new) o ≡ option_and_then (slice_at old) o
    by None is = refl
    by (Some q) is = kept q is

slice_at-set : (places : List Place) (p q : ℕ) (x : Place) → (q ≡ p → ⊥) → slice_at (set places p x) q ≡ slice_at places q
slice_at-set places p q x other = elim (eqb_tells q p) [
  | inl same ↦ absurd (other same.1)
  | inr apart ↦ ap (λ (x : Place). option_map (λ (pair : Bor (List ℕ) × Bor (List ℕ)). pair.0) x) (get_or-set_other places p q x None apart.1)
]

-- where one name gets its new slice, and the others keep theirs, the table has the slices of the new pairs
abbrev pub AreSlices : List Place → List (NameKey × ℕ) → Type 0
AreSlices places entries = (name : List ℕ) → slice_in entries name ≡ slice_of places name

slices-set : (old new : List Place) (m n : List (NameKey × ℕ)) (name : List ℕ) → AreSlices old m → SetsSlice m name (slice_of new name) n → ((other : List ℕ) → (other ≡ name → ⊥) → slice_of new other ≡ slice_of old other) → AreSlices new n
slices-set old new m n name are sets others other = by (bytes_eq name other) refl
  where
    by : (b : Bool) → bytes_eq name other ≡ b → slice_in n other ≡ slice_of new other
    by true met = (let P : List ℕ → Type 0 = λ other. slice_in n other ≡ slice_of new other in subst P ((bytes_eq-Decides name other).0 met) sets.own_slice)
    by false apart = sets.other_slices other apart ∙ are other ∙ sym (others other (λ same. (let both : true ≡ false = sym ((bytes_eq-Decides name other).1 (sym same)) ∙ apart in cc)))

abbrev name_of : Place → Option (Bor (List ℕ))
name_of x = option_map (λ (pair : Bor (List ℕ) × Bor (List ℕ)). pair.0) x

-- a pair is put into a free place
module _ (places : List Place) (p : ℕ) (name bytes : Bor (List ℕ)) (free : IsFreeFor (map place_seen places) name.now p) where
  abbrev put : List Place
  put = set places p (Some (name, bytes))

  abbrev put_pair : Pair
  put_pair = record { name = name.now; bytes = bytes.now; free = false }

  seen-put : map place_seen put ≡ set (map place_seen places) p put_pair
  seen-put = map-set place_seen places p (Some (name, bytes))

  own-put : slice_of put name.now ≡ Some name
  own-put =
      let all = length-map places place_seen in
      let low = free.inside in
      let inside : p < length places = omega arith in
      ap (λ (ps : List Pair). option_and_then (slice_at put) (place_of ps name.now)) seen-put
      ∙ ap (option_and_then (slice_at put)) (place_of-there (map place_seen places) p put_pair name.now free.none free.inside ((bytes_eq-Decides name.now name.now).1 refl))
      ∙ ap name_of (get_or-set_same places p (Some (name, bytes)) None inside)

  kept-put : (other : List ℕ) → (other ≡ name.now → ⊥) → slice_of put other ≡ slice_of places other
  kept-put other apart =
      slice_of-same places put other
      (ap (λ (ps : List Pair). place_of ps other) seen-put ∙ place_of-set (map place_seen places) p put_pair other (free-unnamed (get_or (map place_seen places) p no_pair) other free.free) (other-unnamed put_pair other apart))
      (λ q is. slice_at-set places p q (Some (name, bytes)) (λ same. place_of-taken (map place_seen places) other q is (subst (λ (q : ℕ). (get_or (map place_seen places) q no_pair).free ≡ true) (sym same) free.free)))

  pub slices-filled : (m n : List (NameKey × ℕ)) → AreSlices places m → SetsSlice m name.now (Some name) n → AreSlices put n
  slices-filled m n are sets = slices-set places put m n name.now are (record { own_slice = sets.own_slice ∙ sym own-put; other_slices = sets.other_slices }) kept-put

-- the pair in a place is removed
module _ (places : List Place) (p : ℕ) (name : List ℕ) (is : (get_or (map place_seen places) p no_pair).name ≡ name) where
  kept-removed : (other : List ℕ) → (other ≡ name → ⊥) → slice_of (set places p None) other ≡ slice_of places other
  kept-removed other apart =
      slice_of-same places (set places p None) other
      (ap (λ (ps : List Pair). place_of ps other) (map-set place_seen places p None) ∙ place_of-removed (map place_seen places) p other (λ same. apart (same ∙ is)))
      (λ q first. slice_at-set places p q None (λ same. apart (named-name (get_or (map place_seen places) q no_pair) other (place_of-met (map place_seen places) other q first) ∙ ap (λ (q : ℕ). (get_or (map place_seen places) q no_pair).name) same ∙ is)))

  pub slices-removed : (m n : List (NameKey × ℕ)) → AreSlices places m → SetsSlice m name (slice_of (set places p None) name) n → AreSlices (set places p None) n
  slices-removed m n are sets = slices-set places (set places p None) m n name are sets kept-removed

-- a pair is added at the end
place_of-push : (pairs : List Pair) (x : Pair) (other : List ℕ) → place_of (pairs ++ x ∷ []) other ≡ option_or (place_of pairs other) (if_met (is_named x other) (0 + length pairs))
unfolding place_of
place_of-push pairs x other = place_from-push 0 pairs x other

module _ (places : List Place) (name bytes : Bor (List ℕ)) (m n : List (NameKey × ℕ)) (known : ArePlaces (map place_seen places) m) (are : AreSlices places m) (notes : NotesSlice m name n) where
  abbrev pushed : List Place
  pushed = places ++ Some (name, bytes) ∷ []

  last-pushed : slice_at pushed (0 + length (map place_seen places)) ≡ Some name
  last-pushed =
      let all = length-map places place_seen in
      let at : 0 + length (map place_seen places) ≡ length places = omega arith in
      ap name_of (ap (λ (p : ℕ). get_or pushed p None) at ∙ get_or_push places (Some (name, bytes)) None (length places) refl)

  new-pushed : (b : Bool) → cond b (Some name) None ≡ option_and_then (slice_at pushed) (if_met b (0 + length (map place_seen places)))
  new-pushed true = sym last-pushed
  new-pushed false = refl

  slice-pushed : (other : List ℕ) (o : Option ℕ) → place_of (map place_seen places) other ≡ o
      → option_or (slice_in m other) (if_named other name) ≡ option_and_then (slice_at pushed) (option_or o (if_met (bytes_eq other name.now) (0 + length (map place_seen places))))
  slice-pushed other None none = ap (λ s. option_or s (if_named other name)) (slice-none m other (known other ∙ none)) ∙ new-pushed (bytes_eq other name.now)
  slice-pushed other (Some q) is =
      let there : is_some (slice_in m other) ≡ true = slice-there m other ∙ ap is_some (known other ∙ is) in
      let low = place_of-below (map place_seen places) other q is in
      let all = length-map places place_seen in
      let inside : q < length places = omega arith in
      or-some (slice_in m other) (if_named other name) there
      ∙ are other
      ∙ ap (option_and_then (slice_at places)) is
      ∙ ap name_of (sym (get_or_append_left places (Some (name, bytes) ∷ []) None q inside))

  pub slices-push : AreSlices pushed n
  slices-push other =
      notes other
      ∙ slice-pushed other (place_of (map place_seen places) other) refl
      ∙ sym (ap (option_and_then (slice_at pushed)) (ap (λ (ps : List Pair). place_of ps other) (map_push place_seen places (Some (name, bytes))) ∙ place_of-push (map place_seen places) (record { name = name.now; bytes = bytes.now; free = false }) other))

-- without pairs there is nothing
pub slices-nil : (places : List Place) (entries : List (NameKey × ℕ)) → places ≡ [] → entries ≡ [] → AreSlices places entries
unfolding place_of
slices-nil places entries none empty name = rw (none, empty) refl
