-- Which states are reached, and that a fragment that stays is present in each state that a run comes through.
use Rattle.std.proofs.Common.{ℕ, List, [], ◌∷◌, ◌++◌, inl, inr, refl, sym, subst}
use Rattle.cfm_store.specs.Stores.{Pair}
use Rattle.cfm_memory.specs.declared.place.Place.{Place}
use Rattle.cfm_prepare.specs.Contexts.{ContextState, made_state}
use Rattle.cfm_prepare.specs.Options.{Choices}
use Rattle.cfm_prepare.specs.Runs.{Runs, Step, Takes}
use Rattle.pef_headline.specs.Headline.{IsReached}
use Rattle.pef_headline.specs.Placed.{ComesThrough, IsPresentAt, StaysAt}
use Rattle.pef_headline.proofs.PlacedLemmas.{run-push}

pub reached-made : (pairs : List Pair) (choices : Choices) → IsReached (made_state pairs choices)
reached-made pairs choices = record { pairs = pairs; choices = choices; steps = []; run = refl }

pub reached-step : (s t : ContextState) (step : Step) → IsReached s → Takes s step t → IsReached t
reached-step s t step reached takes = record {
  pairs = reached.pairs;
  choices = reached.choices;
  steps = reached.steps ++ step ∷ [];
  run = run-push reached.steps (made_state reached.pairs reached.choices) s t step reached.run takes;
}

pub stays-through : (steps : List Step) (s t m : ContextState) (run : Runs s steps t) (p : ℕ) (places : List Place) → StaysAt steps s t run p places → ComesThrough steps s t run m → IsPresentAt m p places
stays-through [] s t m run p places stays here = subst (λ (u : ContextState). IsPresentAt u p places) (sym here) stays
stays-through (step ∷ steps) s t m run p places stays (inl here) = subst (λ (u : ContextState). IsPresentAt u p places) (sym here) stays.0
stays-through (step ∷ steps) s t m run p places stays (inr later) = stays-through steps run.0 t m run.2 p places stays.1 later
