-- The index of the exports by their names.
use Rattle.std.proofs.Common.{◌≡◌, ℕ, ◌+◌, ◌-◌, ◌<◌, ◌≤◌, Bool, true, false, List, length, Option, None, Some, nat_cmp, is_lt, cond, refl, sym, ap, ◌∙◌, subst, arith}
use Rattle.std.specs.Ordering.{MatchOrdering, ord_max}
use Rattle.std.specs.Option.{option_and_then}
use Rattle.std.specs.Prelude.{option_map}
use Rattle.std.specs.Str.{bytes_eq}
use Rattle.std.specs.declared.cmp.Ordering.{Ordering}
use Rattle.std.specs.declared.cmp.Ordering.TheVariants.{Less, Equal, Greater}
use Rattle.std.proofs.lemmas.Cmp.{ranked}
use Rattle.std.proofs.lemmas.Option.{same_Some}
use Rattle.std.proofs.lemmas.Slice.Eq.{bytes_eq-Decides}
use Rattle.pef_words.specs.Refusals.{◌>>=◌, first_among}
use Rattle.pef_words.proofs.Laws.Refusals.{first_among-here, first_among-next}
use Rattle.pef_format.specs.Exports.{Export, value_of}
use Rattle.pef_format.specs.declared.export.ExportValue.{ExportValue}
use Rattle.pef_hash.specs.Exports.{Entry, export_named, name_of, named_at}
use Rattle.pef_loader.specs.Export.{export_in, export_table}
use Rattle.pef_loader.specs.Loader.{Loaded, export_of, named_of}
use Rattle.pef_names.specs.declared.name_key.NameKey.{NameKey}
use Rattle.cfm_store.specs.Kept.NameIndexes.{IsIndex, IsIndexFrom, value_at}
use Rattle.cfm_store.specs.Places.{place_in}
use Rattle.cfm_store.specs.Kept.Places.{SetsPlace}
use Rattle.cfm_store.specs.declared.name_index.NameIndex.{NameIndex}

-- a row and its name, if both are there
named-row : (e : Option Entry) (n : Option (List ℕ)) (x : Export) → (e >>= (λ (e : Entry). n >>= (λ name. Some (record { fields = e.fields; name = name })))) ≡ Some x → n ≡ Some x.name
named-row None n x is = absurd (cc)
named-row (Some e) None x is = absurd (cc)
named-row (Some e) (Some name) x is = ap (λ (y : Export). Some y.name) (same_Some _ x is)

-- an export's name is that of its row in the table
name-own : (l : Loaded) (i : ℕ) (x : Export) → export_of l i ≡ Some x → name_of (export_table l.bytes l.header) i ≡ Some x.name
unfolding export_of export_in
name-own l i x is = named-row _ (name_of (export_table l.bytes l.header) i) x is

-- neither of two numbers is above the greater one
pub both-below : (a b : ℕ) → (a ≤ ord_max nat_cmp a b) × (b ≤ ord_max nat_cmp a b)
both-below a b = by (nat_cmp b a) (ranked b a (nat_cmp b a) refl)
  where
    by : (o : Ordering) → MatchOrdering o (b < a) (b ≡ a) (a < b) → (a ≤ cond (is_lt o) a b) × (b ≤ cond (is_lt o) a b)
    by Less is = (omega arith, omega (arith, is))
    by Equal is = (omega (arith, is), omega arith)
    by Greater is = (omega (arith, is), omega arith)

-- the export before them is the first with its name
pub index-more : (l : Loaded) (i : ℕ) (x : Export) (m n : List (NameKey × ExportValue)) (longest longer : ℕ) → i < l.header.export_count → export_of l i ≡ Some x → SetsPlace m x.name (Some (value_of x.fields.section x.fields.value)) n → longest ≤ longer → length x.name ≤ longer
    → IsIndexFrom l (i + 1) m longest → IsIndexFrom l i n longer
index-more l i x m n longest longer under is sets more own are = record { first = first; long = long }
  where
    named : name_of (export_table l.bytes l.header) i ≡ Some x.name
    named = name-own l i x is

    meant : value_at l i ≡ Some (value_of x.fields.section x.fields.value)
    meant = ap (option_map (λ (e : Export). value_of e.fields.section e.fields.value)) is

    first : (name : List ℕ) → place_in n name ≡ option_and_then (value_at l) (first_among (named_at (export_table l.bytes l.header) name) i (l.header.export_count - i))
    first name = by (bytes_eq x.name name) refl
      where
        by : (b : Bool) → bytes_eq x.name name ≡ b → place_in n name ≡ option_and_then (value_at l) (first_among (named_at (export_table l.bytes l.header) name) i (l.header.export_count - i))
        by true met =
            let here : named_at (export_table l.bytes l.header) name i ≡ Some i = rw (named, met) refl in
            let P : List ℕ → Type 0 = λ name. place_in n name ≡ Some (value_of x.fields.section x.fields.value) in
            subst P ((bytes_eq-Decides x.name name).0 met) sets.own
            ∙ sym (ap (option_and_then (value_at l)) (first_among-here (named_at (export_table l.bytes l.header) name) i l.header.export_count i under here) ∙ meant)
        by false apart =
            let none : named_at (export_table l.bytes l.header) name i ≡ None = rw (named, apart) refl in
            sets.others name apart ∙ are.first name ∙ ap (option_and_then (value_at l)) (sym (first_among-next (named_at (export_table l.bytes l.header) name) i l.header.export_count under none))

    long : (name : List ℕ) → longer < length name → place_in n name ≡ None
    long name past = by (bytes_eq x.name name) refl
      where
        by : (b : Bool) → bytes_eq x.name name ≡ b → place_in n name ≡ None
        by true met = let same = ap length ((bytes_eq-Decides x.name name).0 met) in absurd (omega (arith, same, past, own))
        by false apart = sets.others name apart ∙ are.long name (omega (arith, past, more))

-- what an index has for a name is what the first export with it means
pub index-named : (l : Loaded) (index : NameIndex) (name : List ℕ) → IsIndex l index → place_in index.values.entries name ≡ option_and_then (value_at l) (named_of l name)
unfolding named_of export_named
index-named l index name are = are.first name ∙ ap (λ n. option_and_then (value_at l) (first_among (named_at (export_table l.bytes l.header) name) 0 n)) (omega arith)
