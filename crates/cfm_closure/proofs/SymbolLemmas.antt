-- Imports that are read all together are those of their fragment.
use Rattle.std.proofs.Common.{◌≡◌, ℕ, ◌<◌, List, length, Option, None, Some, sym, ap, ◌∙◌, subst, get_or, set, inl, inr, arith, Contains}
use Rattle.std.specs.Prelude.{IfSome, option_map}
use Rattle.std.specs.Option.{option_and_then, option_map_or}
use Rattle.std.proofs.lemmas.Bool.Decides.{eqb_tells}
use Rattle.std.proofs.lemmas.List.{get_or-set_same, get_or-set_other, length-set}
use Rattle.pef_loader.specs.Loader.{Loaded, import_of}
use Rattle.pef_format.specs.Symbols.{ImportView, import_seen}
use Rattle.cfm_store.specs.Stores.{Pair}
use Rattle.cfm_closure.specs.Fragments.{import_at, library_count, loader_at}
use Rattle.cfm_closure.specs.Kept.Symbols.{AreTables, table_at}

module _ (pairs : List Pair) (order : List ℕ) (tables : List (Option (Option Loaded))) (are : AreTables pairs order tables) (p : ℕ) (there : Contains order p) where
  -- a fragment of the order has a place
  pub table_inside : p < length tables
  table_inside = let place = (are.complete.members p there).place in let size = are.size in omega arith

  -- a table in a place is that of the fragment
  pub table_found : (l : Loaded) → get_or tables p None ≡ Some (Some l) → loader_at pairs p ≡ Some l
  table_found l is = are.read p l (ap (option_and_then (λ (table : Option Loaded). table)) is)

  module _ (table : Option Loaded) (is : (l : Loaded) → table ≡ Some l → loader_at pairs p ≡ Some l) where
    pub table-here : table_at (set tables p (Some table)) p ≡ table
    table-here = ap (option_and_then (λ (table : Option Loaded). table)) (get_or-set_same tables p (Some table) None table_inside)

    -- with another table in its place
    pub tables-set : AreTables pairs order (set tables p (Some table))
    tables-set = record {
      complete = are.complete;
      size = length-set tables p (Some table) ∙ are.size;
      read = λ q l found. elim (eqb_tells q p) [
        | inl same ↦ (
            let P : ℕ → Type 0 = λ q. table_at (set tables p (Some table)) q ≡ Some l in
            let Q : ℕ → Type 0 = λ q. loader_at pairs q ≡ Some l in
            subst Q (sym same.1) (is l (sym table-here ∙ subst P same.1 found)))
        | inr other ↦ are.read q l (ap (option_and_then (λ (table : Option Loaded). table)) (sym (get_or-set_other tables p q (Some table) None other.1)) ∙ found)
      ];
    }

-- the facts of an import of a fragment
pub record IsSymbol (pairs : List Pair) (p j : ℕ) (symbol : Option ImportView) : Type 0 where
  pub value : option_map import_seen symbol ≡ import_at pairs p j
  pub library : IfSome symbol (λ v. v.library < library_count pairs p)

pub symbol-is : (pairs : List Pair) (p j : ℕ) (l : Loaded) (symbol : Option ImportView) → loader_at pairs p ≡ Some l → option_map import_seen symbol ≡ import_of l j → IfSome symbol (λ v. v.library < l.header.library_count) → IsSymbol pairs p j symbol
symbol-is pairs p j l symbol loader is below = record {
  value = is ∙ sym (ap (option_and_then (λ (l : Loaded). import_of l j)) loader);
  library = (let P : ℕ → Type 0 = λ n. IfSome symbol (λ v. v.library < n) in subst P (sym (ap (λ o. option_map_or (λ (l : Loaded). l.header.library_count) o 0) loader)) below);
}
