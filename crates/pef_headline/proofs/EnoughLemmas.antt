-- The conditions of the headline are enough: where they are met, there is a state that the preparation gives.
use Rattle.std.proofs.Common.{ℕ, List}
use Rattle.cfm_memory.specs.Extents.{Rule}
use Rattle.cfm_prepare.specs.Contexts.{ContextState}
use Rattle.cfm_prepare.specs.Steps.{HasClosure, PreparesBy}
use Rattle.cfm_prepare.proofs.Laws.{prepares-to}
use Rattle.pef_headline.specs.Headline.{LibrariesResolve, OthersAreSoundBy, SectionsFindPlaces}
use Rattle.pef_headline.proofs.RefusedLemmas.{no-header, no-image}

pub enough-met : (rule : Rule) (s : ContextState) (name : List ℕ) (resolve : LibrariesResolve s name) → SectionsFindPlaces rule s resolve.closed → OthersAreSoundBy rule s resolve.closed → (t : ContextState) × PreparesBy rule s name s.given t
enough-met rule s name resolve find sound =
    let closure : HasClosure s name = record { has = record { left = find.left; root = resolve.root; is = resolve.is }; closed = resolve.closed; is = resolve.closure } in
    prepares-to rule s name closure find.within find.counted find.room (λ other k bad. no-image rule s resolve.closed other k sound bad) (λ other k bad. no-header rule s resolve.closed other k sound bad)
