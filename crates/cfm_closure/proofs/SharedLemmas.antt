-- Targets that closures share.
use Rattle.std.proofs.Common.{◌≡◌, ℕ, ◌+◌, ◌<◌, ◌≤◌, List, [], length, Option, None, Some, refl, sym, ap, subst, ◌∙◌, get_or, arith}
use Rattle.std.specs.Prelude.{IsSome, Ok}
use Rattle.std.specs.Option.{option_map_or}
use Rattle.std.specs.Result.{result_err}
use Rattle.pef_loader.specs.Loader.{Loaded}
use Rattle.pef_words.proofs.Laws.Refusals.{first_among-none}
use Rattle.cfm_store.specs.Stores.{Pair}
use Rattle.cfm_closure.specs.Closures.{import_refusal, imports_refusal}
use Rattle.cfm_closure.specs.Fragments.{import_count}
use Rattle.cfm_closure.specs.Views.{fragment_seen}
use Rattle.cfm_closure.specs.declared.fragment.ClosedFragment.{ClosedFragment}
use Rattle.cfm_closure.specs.Kept.Paths.{IsClosed}
use Rattle.cfm_closure.specs.Kept.Targets.{AllKnown, IsResolved, Row, Rows}
use Rattle.cfm_closure.proofs.HopFacts.{loader_at-is}
use Rattle.cfm_closure.proofs.LeadLemmas.{target-led}

some_of : {A : Type 0} (o : Option A) → IsSome o → (x : A) × (o ≡ Some x)
some_of None is = absurd (cc)
some_of (Some x) is = (x, refl)

module _ (pairs : List Pair) (p : ℕ) (f : ClosedFragment) (closed : IsClosed pairs p f) where
  -- a fragment has a row for its imports
  imports_of : length f.targets ≡ import_count pairs p
  imports_of = closed.imports ∙ sym (ap (λ o. option_map_or (λ (l : Loaded). l.header.import_count) o 0) (loader_at-is pairs p (fragment_seen f.view) closed.read))

  module _ (known : AllKnown f.targets) where
    -- then the fragment is resolved
    pub resolved_of : (rows : Rows) → f.targets ≡ get_or rows p [] → IsResolved pairs rows p
    resolved_of rows row j under =
        let e = imports_of in
        subst (λ (row : Row). IsSome (get_or row j None)) row (known j (omega arith))

    -- and none of its imports is refused
    pub passes_of : imports_refusal pairs p ≡ None
    passes_of = first_among-none (import_refusal pairs p) 0 (import_count pairs p) passes
      where
        passes : (j : ℕ) → 0 ≤ j → j < 0 + import_count pairs p → import_refusal pairs p j ≡ None
        passes j low high =
            let e = imports_of in
            let t = some_of (get_or f.targets j None) (known j (omega arith)) in
            ap result_err (target-led pairs p j (Ok t.0) (closed.right j t.0 t.1))
