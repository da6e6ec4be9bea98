-- What a preparation places is sound.
use Rattle.std.specs.Prelude.{ℕ, List}
use Rattle.std.specs.List.{AllByRecursion}
use Rattle.cfm_store.specs.Stores.{pair_of}
use Rattle.cfm_memory.specs.Extents.{Rule}
use Rattle.cfm_prepare.specs.Contexts.{ContextState}
use Rattle.cfm_prepare.specs.Fragments.{Present}
use Rattle.cfm_prepare.specs.Steps.{PreparesBy}
use Rattle.pef_inspect.specs.Sound.{IsSound}

-- each new fragment of a preparation that gives a connection, by whichever rule its sections are placed, has a sound container. So a container in which an error is found is
-- never placed
abbrev pub PlacedAreSound : Type 0
PlacedAreSound = (rule : Rule) (s t : ContextState) (name : List ℕ) (number : ℕ) (step : PreparesBy rule s name number t) → AllByRecursion (λ (f : Present). IsSound (pair_of s.pairs f.position).bytes) step.fresh
