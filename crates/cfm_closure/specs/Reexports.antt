-- Imports that lead to imports, through exports that pass them on (PEFExportedSymbol).
use Rattle.std.specs.Prelude.{◌≡◌, ℕ, zero, suc, ◌<◌, List, Option, None, Some, Result, Ok, Err}
use Rattle.std.specs.Option.{option_and_then}
use Rattle.cfm_store.specs.Stores.{Pair}
use Rattle.cfm_closure.specs.Faults.{BindRefusal}
use Rattle.cfm_closure.specs.Targets.{Hop, ends, hop, through}

-- the export that a hop goes through and the import after it; none if it ends
abbrev pub after : Hop → Option ((ℕ × ℕ) × (ℕ × ℕ))
after (ends target) = None
after (through q e k) = Some ((q, e), (q, k))

abbrev pub next_of : Result Hop BindRefusal → Option ((ℕ × ℕ) × (ℕ × ℕ))
next_of (Ok h) = after h
next_of (Err refusal) = None

-- the import that is reached by n hops from an import; none if they end before
unfoldable pub hops : List Pair → ℕ → ℕ × ℕ → Option (ℕ × ℕ)
hops pairs zero v = Some v
hops pairs (suc n) v = option_and_then (λ next. hops pairs n next.1) (next_of (hop pairs v.0 v.1))

-- the export that the hop after n hops goes through
abbrev pub met : List Pair → ℕ → ℕ × ℕ → Option (ℕ × ℕ)
met pairs n v = option_and_then (λ w. option_and_then (λ next. Some next.0) (next_of (hop pairs w.0 w.1))) (hops pairs n v)

-- on the way from an import, an export is visited a second time
pub record MeetsAgain (pairs : List Pair) (v : ℕ × ℕ) : Type 0 where
  pub first : ℕ
  pub second : ℕ
  pub later : first < second
  pub export : ℕ × ℕ
  pub was : met pairs first v ≡ Some export
  pub again : met pairs second v ≡ Some export
