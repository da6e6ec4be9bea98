-- What a search by name finds.
use Rattle.std.proofs.Common.{◌≡◌, ◌≢◌, ℕ, ◌<◌, cond, List, Option, None, Some, false, refl, sym, ap, arith}
use Rattle.std.proofs.lemmas.Option.{cond_some}
use Rattle.std.proofs.lemmas.Slice.Eq.{bytes_eq-Decides}
use Rattle.std.specs.Option.{option_map_or}
use Rattle.std.specs.Str.{bytes_eq}
use Rattle.pef_words.proofs.Laws.Refusals.{none_among, some_among}
use Rattle.pef_hash.specs.Exports.{ExportTable, export_named, name_of, named_at}

-- an export of a name is found at its place
named_here : (t : ExportTable) (name : List ℕ) (i : ℕ) → name_of t i ≡ Some name → named_at t name i ≡ Some i
named_here t name i is =
    let same = (bytes_eq-Decides name name).1 refl in
    rw (is, same) refl

-- and the export found at a place has that name
pub named_only : (o : Option (List ℕ)) (name : List ℕ) (i x : ℕ) → cond (option_map_or (λ found. bytes_eq found name) o false) (Some i) None ≡ Some x → (i ≡ x) × (o ≡ Some name)
named_only None name i x is = absurd (cc)
named_only (Some found) name i x is =
    let met = cond_some (bytes_eq found name) i x is in
    (met.1, ap Some ((bytes_eq-Decides found name).0 met.0))

-- a search by name finds an export with that name, and the first
pub record IsFirstNamed (t : ExportTable) (name : List ℕ) (i : ℕ) : Type 0 where
  pub below : i < t.count
  pub named : name_of t i ≡ Some name
  pub first : (k : ℕ) → k < i → name_of t k ≢ Some name

pub export_named-some : (t : ExportTable) (name : List ℕ) (i : ℕ) → export_named t name ≡ Some i → IsFirstNamed t name i
unfolding export_named
export_named-some t name i found =
    let r = some_among (named_at t name) 0 t.count i found in
    let only = named_only (name_of t r.at) name r.at i r.is in
    let high = r.high in
    let same : i ≡ r.at = sym only.0 in
    record {
      below = omega arith;
      named = rw same only.1;
      first = λ k before is. let none = r.before k (omega arith) (omega arith) in let here = named_here t name k is in absurd (cc);
    }

-- if none is found, no export has the name
pub export_named-none : (t : ExportTable) (name : List ℕ) (i : ℕ) → export_named t name ≡ None → i < t.count → name_of t i ≢ Some name
unfolding export_named
export_named-none t name i none under is =
    let missed = none_among (named_at t name) 0 t.count i none (omega arith) (omega arith) in
    let here = named_here t name i is in
    absurd (cc)
