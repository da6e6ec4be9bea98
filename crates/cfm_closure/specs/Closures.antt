-- The closure of a fragment, or why there is none (Mac OS Runtime Architectures, "Code Fragment Manager",
-- "Preparing a Fragment").
use Rattle.std.specs.Prelude.{ℕ, List, [], ◌∷◌, Option, None, Result, Ok}
use Rattle.std.specs.Option.{option_or}
use Rattle.std.specs.Result.{result_err}
use Rattle.pef_words.specs.Refusals.{first_among, unless}
use Rattle.cfm_store.specs.Stores.{Pair}
use Rattle.cfm_closure.specs.Faults.{BindRefusal}
use Rattle.cfm_closure.specs.Fragments.{import_count}
use Rattle.cfm_closure.specs.Walk.{order_of}
use Rattle.pef_words.specs.Results.{◌>>=◌}
use Rattle.cfm_closure.specs.Initialization.{init_order_of}
use Rattle.cfm_closure.specs.Targets.{target_of}

-- a closure: its store, and its fragments by their places, in closure order and in the order of
-- initialization
pub record Closed : Type 0 where
  pub pairs : List Pair
  pub order : List ℕ
  pub init_order : List ℕ

-- the refusal of an import
abbrev pub import_refusal : List Pair → ℕ → ℕ → Option BindRefusal
import_refusal pairs p j = result_err (target_of pairs p j)

-- the first refusal of an import of a fragment
abbrev pub imports_refusal : List Pair → ℕ → Option BindRefusal
imports_refusal pairs p = first_among (import_refusal pairs p) 0 (import_count pairs p)

-- the first refusal of an import, fragment by fragment
abbrev pub first_refused : List Pair → List ℕ → Option BindRefusal
first_refused pairs [] = None
first_refused pairs (p ∷ order) = option_or (imports_refusal pairs p) (first_refused pairs order)

-- the closure of the fragment in a place, or the first refusal: of the walk, of the imports, or of the order
-- of initialization
unfoldable pub closed_of : List Pair → ℕ → Result Closed BindRefusal
closed_of pairs root = order_of pairs root
    >>= (λ order. unless (first_refused pairs order) (init_order_of pairs order
    >>= (λ init_order. Ok (record { pairs = pairs; order = order; init_order = init_order }))))
