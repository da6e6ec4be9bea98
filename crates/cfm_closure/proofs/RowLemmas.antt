-- The rows of a table of fragments.
use Rattle.std.proofs.Common.{◌≡◌, ℕ, zero, suc, List, [], ◌∷◌, refl, length, replicate, Option, None, Some, ap, get_or, set, inl, inr, arith}
use Rattle.std.proofs.Math.ListN.{get_or-map}
use Rattle.std.proofs.lemmas.Bool.{cases_lt}
use Rattle.std.proofs.lemmas.List.{get_or-replicate, get_or_past, length-map, length-replicate, map-set}
use Rattle.cfm_closure.specs.declared.fragment.ClosedFragment.{ClosedFragment}
use Rattle.cfm_closure.specs.Kept.Resolutions.{all_meant}
use Rattle.cfm_closure.specs.Kept.Rows.{row_of, rows_of}

pub row-at : (table : List (Option ClosedFragment)) (p : ℕ) → get_or (rows_of table) p [] ≡ row_of (get_or table p None)
row-at table p = get_or-map row_of table p None

pub rows-length : (table : List (Option ClosedFragment)) → length (rows_of table) ≡ length table
rows-length table = length-map table row_of

pub rows-set : (table : List (Option ClosedFragment)) (p : ℕ) (f : ClosedFragment) → rows_of (set table p (Some f)) ≡ set (rows_of table) p f.targets
rows-set table p f = map-set row_of table p (Some f)

-- past the places of a table, and in a place without value, there is no value
pub none-at : {T : Type 0} (n p : ℕ) → get_or {A = Option T} (replicate n None) p None ≡ None
none-at {T} n p = elim (cases_lt p n) [
  | inl under ↦ get_or-replicate n p None None under
  | inr past ↦ get_or_past (replicate {A = Option T} n None) p None (omega (arith, length-replicate {A = Option T} n None))
]

-- some imports without known targets
pub all_meant-none : (n : ℕ) → all_meant (replicate n None) ≡ replicate n None
all_meant-none zero = refl
all_meant-none (suc n) = ap (λ row. None ∷ row) (all_meant-none n)
