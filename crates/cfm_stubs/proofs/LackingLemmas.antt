-- The libraries that a store lacks are all there: each entry is served by the store, or has a row, which is weak only if the entry is.
use Rattle.std.proofs.Common.{◌≡◌, ◌∙◌, ℕ, zero, suc, ◌+◌, ◌-◌, ◌<◌, ◌≤◌, ◌&&◌, ◌||◌, Bool, true, false, cond, List, [], ◌∷◌, ◌++◌, Option, None, Some, is_some, length, slice_get, inl, inr, refl, sym, ap, subst, arith}
use Rattle.std.specs.Prelude.{◌⊎◌, fold, not, if◌then◌else◌}
use Rattle.std.specs.Borrow.{Bor}
use Rattle.std.specs.List.{flat_map, list_any}
use Rattle.std.specs.Map.{lookup}
use Rattle.std.specs.Option.{option_map_or}
use Rattle.std.specs.Str.{bytes_eq}
use Rattle.std.proofs.lemmas.Bool.Decides.{eqb_tells}
use Rattle.std.proofs.lemmas.Slice.Eq.{bytes_eq-Decides}
use Rattle.indexmap.specs.IndexMap.{insert_entry}
use Rattle.pef_format.specs.declared.library.LibraryFields.{LibraryFields}
use Rattle.pef_loader.specs.Library.{Library}
use Rattle.pef_loader.specs.Loader.{Loaded, library_of}
use Rattle.pef_names.specs.declared.name_key.NameKey.{NameKey}
use Rattle.cfm_store.specs.Stores.{Pair, place_of}
use Rattle.cfm_closure.specs.Fragments.{loader_at}
use Rattle.cfm_stubs.specs.Kept.Tables.{lacking_entry, lacking_named, weak_with}
use Rattle.cfm_stubs.specs.Lacking.{LackingLibrary, all_entries, entries_on, is_weak_entry, lacking_of, listed, loaders_from, with_entry, with_lacking, wanted}
use Rattle.cfm_stubs.specs.Made.{IsAmong}
use Rattle.cfm_stubs.proofs.FoldLemmas.{fold-append, one_left}

-- what is left of the loader sections of a store, and of the entries of one

pub loaders-next : (pairs : List Pair) (n p : ℕ) → p < n → loaders_from pairs p (n - p) ≡ listed (loader_at pairs p) ++ loaders_from pairs (p + 1) (n - (p + 1))
loaders-next pairs n p under = ap (loaders_from pairs p) (one_left n p under)

pub entries-on-next : {A : Type 0} (f : A → Library → A) (a : A) (l : Loaded) (n k : ℕ) → k < n → fold f a (entries_on l k (n - k)) ≡ fold f (fold f a (listed (library_of l k))) (entries_on l (k + 1) (n - (k + 1)))
entries-on-next f a l n k under =
    ap (λ m. fold f a (entries_on l k m)) (one_left n k under)
    ∙ fold-append f a (listed (library_of l k)) (entries_on l (k + 1) (n - (k + 1)))

-- a fragment that can be read is among the loader sections

-- one more before them
among-after : (o : Option Loaded) (loaders : List Loaded) (l : Loaded) → IsAmong loaders l → IsAmong (listed o ++ loaders) l
among-after None loaders l it = it
among-after (Some x) loaders l it = record { index = suc it.index; there = it.there }

loader-among : (pairs : List Pair) (from n p : ℕ) (l : Loaded) → from ≤ p → p < from + n → loader_at pairs p ≡ Some l → IsAmong (loaders_from pairs from n) l
loader-among pairs from zero p l low high is = absurd (omega arith)
loader-among pairs from (suc n) p l low high is =
    elim (eqb_tells from p) [
      | inl here ↦ (
          let own : loader_at pairs from ≡ Some l = ap (loader_at pairs) here.1 ∙ is in
          record { index = 0; there = ap (λ o. slice_get (listed o ++ loaders_from pairs (from + 1) n) 0) own })
      | inr other ↦ (let apart = other.1 in among-after (loader_at pairs from) (loaders_from pairs (from + 1) n) l (loader-among pairs (from + 1) n p l (omega arith) (omega arith) is))
    ]

pub loaders-among : (pairs : List Pair) (p : ℕ) (l : Loaded) → p < length pairs → loader_at pairs p ≡ Some l → IsAmong (loaders_from pairs 0 (length pairs)) l
loaders-among pairs p l inside is = loader-among pairs 0 (length pairs) p l (omega arith) (omega (arith, inside)) is

-- a row has an entry's name, and is weak only if the entry is
abbrev pub HasRow : Library → List LackingLibrary → Type 0
HasRow l [] = ⊥
HasRow l (x ∷ found) = ((x.name ≡ l.name) × (x.is_weak ≡ true → is_weak_entry l ≡ true)) ⊎ HasRow l found

both-left : (a b : Bool) → (a && b) ≡ true → a ≡ true
both-left true b is = refl
both-left false b is = absurd (cc)

both-right : (a b : Bool) → (a && b) ≡ true → b ≡ true
both-right true b is = is
both-right false b is = absurd (cc)

-- one more entry has a row
row-new : (l : Library) (found : List LackingLibrary) → HasRow l (with_lacking found l)
row-new l [] = inl (refl, λ weak. weak)
row-new l (x ∷ found) = by (bytes_eq l.name x.name) refl (row-new l found)
  where
    by : (same : Bool) → bytes_eq l.name x.name ≡ same → HasRow l (with_lacking found l) → HasRow l (if same then (record { name = x.name; is_weak = x.is_weak && is_weak_entry l }) ∷ found else x ∷ with_lacking found l)
    by true is later = inl (sym ((bytes_eq-Decides l.name x.name).0 is), both-right x.is_weak (is_weak_entry l))
    by false is later = inr later

-- .. and others keep theirs
row-kept : (l m : Library) (found : List LackingLibrary) → HasRow l found → HasRow l (with_lacking found m)
row-kept l m [] row = absurd row
row-kept l m (x ∷ found) row = by (bytes_eq m.name x.name) row (row-kept l m found)
  where
    by : (same : Bool) → HasRow l (x ∷ found) → (HasRow l found → HasRow l (with_lacking found m)) → HasRow l (if same then (record { name = x.name; is_weak = x.is_weak && is_weak_entry m }) ∷ found else x ∷ with_lacking found m)
    by true (inl here) on = inl (here.0, λ weak. here.1 (both-left x.is_weak (is_weak_entry m) weak))
    by true (inr later) on = inr later
    by false (inl here) on = inl here
    by false (inr later) on = inr (on later)

module _ (pairs : List Pair) where
  entry-kept : (l m : Library) (found : List LackingLibrary) → HasRow l found → HasRow l (with_entry pairs found m)
  entry-kept l m found row = by (is_some (place_of pairs m.name))
    where
      by : (there : Bool) → HasRow l (if there then found else with_lacking found m)
      by true = row
      by false = row-kept l m found row

  all-kept : (l : Library) (found : List LackingLibrary) (entries : List Library) → HasRow l found → HasRow l (fold (with_entry pairs) found entries)
  all-kept l found [] row = row
  all-kept l found (m ∷ entries) row = all-kept l (with_entry pairs found m) entries (entry-kept l m found row)

  entry-new : (l : Library) (found : List LackingLibrary) → place_of pairs l.name ≡ None → HasRow l (with_entry pairs found l)
  entry-new l found none = subst (λ (there : Bool). HasRow l (if there then found else with_lacking found l)) (sym (ap is_some none)) (row-new l found)

  -- an entry after some others
  after : (l : Library) (found : List LackingLibrary) (before rest : List Library) → ((more : List LackingLibrary) → HasRow l (fold (with_entry pairs) more rest)) → HasRow l (fold (with_entry pairs) found (before ++ rest))
  after l found before rest later = subst (HasRow l) (sym (fold-append (with_entry pairs) found before rest)) (later (fold (with_entry pairs) found before))

  -- .. and before some others
  before_all : (l : Library) (found : List LackingLibrary) (first rest : List Library) → HasRow l (fold (with_entry pairs) found first) → HasRow l (fold (with_entry pairs) found (first ++ rest))
  before_all l found first rest row = subst (HasRow l) (sym (fold-append (with_entry pairs) found first rest)) (all-kept l (fold (with_entry pairs) found first) rest row)

  entry-row : (l : Loaded) (from n k : ℕ) (x : Library) (found : List LackingLibrary) → from ≤ k → k < from + n → library_of l k ≡ Some x → place_of pairs x.name ≡ None → HasRow x (fold (with_entry pairs) found (entries_on l from n))
  entry-row l from zero k x found low high there none = absurd (omega arith)
  entry-row l from (suc n) k x found low high there none =
      elim (eqb_tells from k) [
        | inl here ↦ (
            let own : library_of l from ≡ Some x = ap (library_of l) here.1 ∙ there in
            before_all x found (listed (library_of l from)) (entries_on l (from + 1) n)
            (subst (λ (o : Option Library). HasRow x (fold (with_entry pairs) found (listed o))) (sym own) (entry-new x found none)))
        | inr other ↦ (let apart = other.1 in after x found (listed (library_of l from)) (entries_on l (from + 1) n) (λ more. entry-row l (from + 1) n k x more (omega arith) (omega arith) there none))
      ]

  rows-among : (loaders : List Loaded) (i : ℕ) (l : Loaded) (k : ℕ) (x : Library) (found : List LackingLibrary) → slice_get loaders i ≡ Some l → k < l.header.library_count → library_of l k ≡ Some x → place_of pairs x.name ≡ None
      → HasRow x (fold (with_entry pairs) found (flat_map all_entries loaders))
  rows-among [] i l k x found among under there none = absurd (cc)
  rows-among (m ∷ loaders) zero l k x found among under there none =
      let is : m ≡ l = cc in
      let P : Loaded → Type 0 = λ l. HasRow x (fold (with_entry pairs) found (all_entries l)) in
      before_all x found (all_entries m) (flat_map all_entries loaders) (subst P (sym is) (entry-row l 0 l.header.library_count k x found (omega arith) (omega (arith, under)) there none))
  rows-among (m ∷ loaders) (suc i) l k x found among under there none =
      after x found (all_entries m) (flat_map all_entries loaders) (λ more. rows-among loaders i l k x more among under there none)

  -- each entry that the store doesn't serve has a row
  pub lacking-row : (loaders : List Loaded) (l : Loaded) (k : ℕ) (x : Library) → IsAmong loaders l → k < l.header.library_count → library_of l k ≡ Some x → place_of pairs x.name ≡ None → HasRow x (lacking_of pairs loaders)
  lacking-row loaders l k x among under there none = rows-among loaders among.index l k x [] among.there under there none

-- a library with a row gets a stub, or is weak

or-first : (a b : Bool) → a ≡ true → (a || b) ≡ true
or-first true b is = refl
or-first false b is = absurd (cc)

or-second : (a b : Bool) → b ≡ true → (a || b) ≡ true
or-second true b is = refl
or-second false b is = is

pub row-wanted : (weak : Bool) (l : Library) (found : List LackingLibrary) → HasRow l found → (list_any (λ name. bytes_eq l.name name) (wanted weak found) ≡ true) ⊎ (is_weak_entry l ≡ true)
row-wanted weak l [] row = absurd row
row-wanted weak l (x ∷ found) (inl here) = by weak x.is_weak refl
  where
    named : bytes_eq l.name x.name ≡ true
    named = (bytes_eq-Decides l.name x.name).1 (sym here.0)

    listed_first : list_any (λ name. bytes_eq l.name name) (x.name ∷ wanted weak found) ≡ true
    listed_first = or-first (bytes_eq l.name x.name) (list_any (λ name. bytes_eq l.name name) (wanted weak found)) named

    by : (all own : Bool) → x.is_weak ≡ own → (list_any (λ name. bytes_eq l.name name) (if all || not own then x.name ∷ wanted weak found else wanted weak found) ≡ true) ⊎ (is_weak_entry l ≡ true)
    by true own is = inl listed_first
    by false true is = inr (here.1 is)
    by false false is = inl listed_first
row-wanted weak l (x ∷ found) (inr later) = by (weak || not x.is_weak) (row-wanted weak l found later)
  where
    by : (wants : Bool) → (list_any (λ name. bytes_eq l.name name) (wanted weak found) ≡ true) ⊎ (is_weak_entry l ≡ true)
        → (list_any (λ name. bytes_eq l.name name) (if wants then x.name ∷ wanted weak found else wanted weak found) ≡ true) ⊎ (is_weak_entry l ≡ true)
    by true (inl there) = inl (or-second (bytes_eq l.name x.name) (list_any (λ name. bytes_eq l.name name) (wanted weak found)) there)
    by true (inr is) = inr is
    by false it = it

-- one more entry in a table of names
pub lacking-insert : (b : Bor (List ℕ)) (fields : LibraryFields) (entries : List (NameKey × Bool)) → let l : Library = record { fields = fields; name = b.now } in
    lacking_named (insert_entry (λ (x y : NameKey). bytes_eq x.bytes.now y.bytes.now) entries (record { bytes = b }) (weak_with l entries)) ≡ with_lacking (lacking_named entries) l
lacking-insert b fields [] = refl
lacking-insert b fields (e ∷ entries) = by (bytes_eq b.now e.0.bytes.now) (lacking-insert b fields entries)
  where
    l : Library
    l = record { fields = fields; name = b.now }

    found : Option Bool
    found = lookup (λ (k : NameKey). bytes_eq b.now k.bytes.now) entries

    both : Bool → Bool
    both same = option_map_or (λ others. others && is_weak_entry l) (cond same (Some e.1) found) (is_weak_entry l)

    by : (same : Bool) → lacking_named (insert_entry (λ (x y : NameKey). bytes_eq x.bytes.now y.bytes.now) entries (record { bytes = b }) (weak_with l entries)) ≡ with_lacking (lacking_named entries) l
        → lacking_named (if same then (e.0, both same) ∷ entries else e ∷ insert_entry (λ (x y : NameKey). bytes_eq x.bytes.now y.bytes.now) entries (record { bytes = b }) (both same))
        ≡ (if same then (record { name = e.0.bytes.now; is_weak = e.1 && is_weak_entry l }) ∷ lacking_named entries else lacking_entry e ∷ with_lacking (lacking_named entries) l)
    by true later = refl
    by false later = ap (λ rest. lacking_entry e ∷ rest) later
