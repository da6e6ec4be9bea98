-- Names and their numbers in a table.
use Rattle.std.proofs.Common.{◌≡◌, ℕ, zero, suc, ◌+◌, ◌<◌, Bool, true, false, cond, List, [], ◌∷◌, map, drop, get_or, length, Option, None, Some, is_some, position, refl, sym, ap, ◌∙◌, Bor, arith}
use Rattle.std.specs.List.{position_from}
use Rattle.std.specs.Map.{keys_of, lookup}
use Rattle.std.specs.Str.{bytes_eq}
use Rattle.std.proofs.lemmas.List.{length-map}
use Rattle.std.proofs.lemmas.Iterator.Adapters.{position_from-zero}
use Rattle.pef_names.specs.declared.name_key.NameKey.{NameKey}
use Rattle.pef_script.specs.declared.parts.ExportData.{ExportData}
use Rattle.pef_script.specs.declared.parts.ImportData.{ImportData}
use Rattle.pef_script.specs.declared.parts.LibraryData.{LibraryData}
use Rattle.pef_script.specs.Parts.{export_of, import_of, library_of, named}
use Rattle.pef_script.specs.Text.Kept.Kinds.{paired}
use Rattle.pef_script.specs.Text.SoFar.{number_of_name, word_in}

-- a place in a list is that in the mapped list
position_from-map : {A B : Type 0} (f : A → B) (test : B → Bool) (at : ℕ) (xs : List A) → position_from test at (map f xs) ≡ position_from (λ x. test (f x)) at xs
position_from-map f test at [] = refl
position_from-map f test at (x ∷ xs) = ap (cond (test (f x)) (Some at)) (position_from-map f test (at + 1) xs)

module _ {T : Type 0} (name : List ℕ) where
  -- the place of a name among the keys is its number
  pub position-keys : (entries : List (NameKey × T)) → position (λ (k : NameKey). bytes_eq name k.bytes.now) (keys_of entries) ≡ number_of_name (map (λ entry. entry.0.bytes.now) entries) name
  position-keys entries =
      position_from-zero (λ (k : NameKey). bytes_eq name k.bytes.now) (keys_of entries)
      ∙ position_from-map (λ (entry : NameKey × T). entry.0) (λ k. bytes_eq name k.bytes.now) 0 entries
      ∙ sym (position_from-map (λ (entry : NameKey × T). entry.0.bytes.now) (bytes_eq name) 0 entries)

  -- a table finds a name if it is repeated
  pub lookup-repeated : (entries : List (NameKey × T)) (at : ℕ) → is_some (position_from (bytes_eq name) at (map (λ entry. entry.0.bytes.now) entries)) ≡ is_some (lookup (λ (k : NameKey). bytes_eq name k.bytes.now) entries)
  lookup-repeated [] at = refl
  lookup-repeated (entry ∷ entries) at = by (bytes_eq name entry.0.bytes.now) (lookup-repeated entries (at + 1))
    where
      by : (here : Bool) → is_some (position_from (bytes_eq name) (at + 1) (map (λ entry. entry.0.bytes.now) entries)) ≡ is_some (lookup (λ (k : NameKey). bytes_eq name k.bytes.now) entries)
          → is_some (cond here (Some at) (position_from (bytes_eq name) (at + 1) (map (λ entry. entry.0.bytes.now) entries))) ≡ is_some (cond here (Some entry.1) (lookup (λ (k : NameKey). bytes_eq name k.bytes.now) entries))
      by true others = refl
      by false others = others

-- the names of entries are in their keys
pub names_of_keys : {T : Type 0} (entries : List (NameKey × T)) → map (λ entry. entry.0.bytes.now) entries ≡ map (λ k. k.bytes.now) (keys_of entries)
names_of_keys [] = refl
names_of_keys (entry ∷ entries) = ap (λ names. entry.0.bytes.now ∷ names) (names_of_keys entries)

-- an option without a value
pub none_if : {A : Type 0} (o : Option A) → is_some o ≡ false → o ≡ None
none_if None none = refl
none_if (Some x) none = absurd (cc)

-- the names of a script's parts are those of its tables

pub names_of_libraries : (entries : List (NameKey × LibraryData)) → map (λ library. library.name) (map (λ e. library_of (named e)) entries) ≡ map (λ entry. entry.0.bytes.now) entries
names_of_libraries [] = refl
names_of_libraries (entry ∷ entries) = ap (λ names. entry.0.bytes.now ∷ names) (names_of_libraries entries)

pub names_of_imports : (entries : List (NameKey × ImportData)) → map (λ symbol. symbol.name) (map (λ e. import_of (named e)) entries) ≡ map (λ entry. entry.0.bytes.now) entries
names_of_imports [] = refl
names_of_imports (entry ∷ entries) = ap (λ names. entry.0.bytes.now ∷ names) (names_of_imports entries)

pub names_of_exports : (entries : List (NameKey × ExportData)) → map (λ symbol. symbol.name) (map (λ e. export_of (named e)) entries) ≡ map (λ entry. entry.0.bytes.now) entries
names_of_exports [] = refl
names_of_exports (entry ∷ entries) = ap (λ names. entry.0.bytes.now ∷ names) (names_of_exports entries)

pub count_of_libraries : (entries : List (NameKey × LibraryData)) → length (map (λ e. library_of (named e)) entries) ≡ length entries
count_of_libraries entries = simp length-map

pub ruleset libraries_seen = (names_of_libraries, count_of_libraries)

pub count_of_imports : (entries : List (NameKey × ImportData)) → length (map (λ e. import_of (named e)) entries) ≡ length entries
count_of_imports entries = simp length-map

pub ruleset imports_seen = (names_of_imports, count_of_imports)

pub count_of_exports : (entries : List (NameKey × ExportData)) → length (map (λ e. export_of (named e)) entries) ≡ length entries
count_of_exports entries = simp length-map

pub ruleset exports_seen = (names_of_exports, count_of_exports)

-- a word that isn't the next one is among those after it, if it is there
pub paired_more : {T : Type 0} (words : List (Bor (List ℕ))) (values : List T) (i : ℕ) (d : Bor (List ℕ)) (word : List ℕ) → length words ≡ length values → i < length words → bytes_eq word (get_or words i d).now ≡ false
    → word_in (paired (map (λ text. text.now) (drop i words)) (drop i values)) word ≡ word_in (paired (map (λ text. text.now) (drop (i + 1) words)) (drop (i + 1) values)) word
paired_more [] values i d word same under unlike = absurd (omega (arith, under))
paired_more (w ∷ words) [] i d word same under unlike = absurd (omega (arith, same))
paired_more (w ∷ words) (v ∷ values) zero d word same under unlike = rw unlike refl
paired_more (w ∷ words) (v ∷ values) (suc i) d word same under unlike =
    let next : suc i + 1 ≡ suc (i + 1) = omega arith in
    rw next (paired_more words values i d word (omega (arith, same)) (omega (arith, under)) unlike)
