-- Exports that were found by their names.
use Rattle.std.proofs.Common.{◌≡◌, arith, ℕ, ◌<◌, List, length, Option, None, Some, ap, sym, ◌∙◌, subst, get_or, set, inl, inr, Contains}
use Rattle.std.specs.Prelude.{option_map}
use Rattle.std.proofs.lemmas.Bool.Decides.{eqb_tells}
use Rattle.std.proofs.lemmas.List.{get_or-set_same, get_or-set_other, length-set}
use Rattle.cfm_store.specs.Exported.{NamedTable}
use Rattle.cfm_store.specs.Stores.{Pair}
use Rattle.cfm_closure.specs.Fragments.{loader_at}
use Rattle.cfm_closure.specs.Kept.Names.{AreNames}

module _ (pairs : List Pair) (order : List ℕ) (names : List (Option NamedTable)) (are : AreNames pairs order names) (p : ℕ) (there : Contains order p) where
  -- a fragment of the order has a place
  pub names_inside : p < length names
  names_inside = let place = (are.complete.members p there).place in let size = are.size in omega arith

  -- with its loader section in its place
  pub names-set : (t : NamedTable) → loader_at pairs p ≡ Some t.loader → AreNames pairs order (set names p (Some t))
  names-set t is = record {
    complete = are.complete;
    size = length-set names p (Some t) ∙ are.size;
    read = λ q k found. elim (eqb_tells q p) [
      | inl same ↦ (
          let P : ℕ → Type 0 = λ q. get_or (set names p (Some t)) q None ≡ Some k in
          let Q : ℕ → Type 0 = λ q. loader_at pairs q ≡ Some k.loader in
          let one : Some t ≡ Some k = sym (get_or-set_same names p (Some t) None names_inside) ∙ subst P same.1 found in
          subst Q (sym same.1) (is ∙ ap (option_map (λ (t : NamedTable). t.loader)) one))
      | inr other ↦ are.read q k (sym (get_or-set_other names p q (Some t) None other.1) ∙ found)
    ];
  }
