-- Imports that are read one after another.
use Rattle.std.proofs.Common.{◌≡◌, ℕ, zero, suc, ◌++◌, ◌∷◌, [], ◌≤◌, ◌⊎◌, inl, inr, List, Option, None, Some, length, refl, sym, ap, subst, ◌∙◌, arith}
use Rattle.std.specs.Prelude.{◌<◌, IfSome, option_map, slice_get}
use Rattle.std.proofs.lemmas.Bool.{le-ltb}
use Rattle.std.proofs.lemmas.Option.{same_Some, slice_get_cases}
use Rattle.pef_format.specs.Symbols.{ImportView, import_seen}
use Rattle.pef_loader.specs.Import.{import_in}
use Rattle.pef_loader.specs.Loader.{Loaded, import_of}
use Rattle.cfm_closure.specs.Kept.Imports.{AreImports}

-- an element of a list with one more element is in the list, or is that one
get-more : {X : Type 0} (xs : List X) (x y : X) (i : ℕ) → slice_get (xs ++ x ∷ []) i ≡ Some y → (slice_get xs i ≡ Some y) ⊎ ((i ≡ length xs) × (x ≡ y))
get-more [] x y zero is = inr (refl, same_Some x y is)
get-more [] x y (suc i) is = absurd (cc)
get-more (x' ∷ xs) x y zero is = inl is
get-more (x' ∷ xs) x y (suc i) is = elim (get-more xs x y i is) [
  | inl old ↦ inl old
  | inr new ↦ inr (ap suc new.0, new.1)
]

-- with one more import
pub imports-more : (l : Loaded) (imports : List ImportView) (v : ImportView) → AreImports l imports → import_of l (length imports) ≡ Some (import_seen v) → v.library < l.header.library_count → AreImports l (imports ++ v ∷ [])
imports-more l imports v are is under = record {
  seen = λ j w found. elim (get-more imports v w j found) [
    | inl old ↦ are.seen j w old
    | inr new ↦ (let P : ImportView → Type 0 = λ w. import_of l j ≡ Some (import_seen w) in subst P new.1 (ap (import_of l) new.0 ∙ is))
  ];
  library = λ j w found. elim (get-more imports v w j found) [
    | inl old ↦ are.library j w old
    | inr new ↦ (let P : ImportView → Type 0 = λ w. w.library < l.header.library_count in subst P new.1 under)
  ];
}

-- what all imports have at an index
pub record IsImport (l : Loaded) (j : ℕ) (found : Option ImportView) : Type 0 where
  pub value : option_map import_seen found ≡ import_of l j
  pub library : IfSome found (λ v. v.library < l.header.library_count)

-- past the last index there is none
import_past : (l : Loaded) (j : ℕ) → l.header.import_count ≤ j → import_of l j ≡ None
unfolding import_of import_in
import_past l j past = rw (le-ltb j l.header.import_count past) refl

pub import_is : (l : Loaded) (imports : List ImportView) (j : ℕ) → AreImports l imports → length imports ≡ l.header.import_count → IsImport l j (slice_get imports j)
import_is l imports j are all =
    elim (slice_get_cases imports j).1 [
      | inl there ↦ subst (IsImport l j) (sym there.2) (record { value = sym (are.seen j there.0 there.2); library = are.library j there.0 there.2 })
      | inr past ↦ subst (IsImport l j) (sym past.1) (record { value = sym (import_past l j (omega (arith, all, past.0))); library = tt })
    ]
