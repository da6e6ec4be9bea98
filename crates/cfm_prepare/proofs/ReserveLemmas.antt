-- Reserved ranges of a context's memory.
use Rattle.std.proofs.Common.{◌≡◌, ℕ, List, [], ◌∷◌, refl, sym, ap, ◌∙◌}
use Rattle.cfm_memory.specs.Extents.{Rule, given_back}
use Rattle.cfm_memory.specs.Instances.{Layout, with_instances, without}
use Rattle.cfm_memory.specs.declared.place.Place.{Place}
use Rattle.cfm_prepare.specs.Contexts.{ContextState, unneeded_of}
use Rattle.cfm_prepare.specs.Fragments.{Present, all_given_back}
use Rattle.cfm_prepare.specs.Steps.{Closes, PreparesBy}

-- instances that are removed leave the reserved ranges
given-reserved : (m : Layout) (places : List Place) → (given_back m places).reserved ≡ m.reserved
given-reserved m [] = refl
given-reserved m (p ∷ places) = given-reserved (with_instances m (without m.instances p.address)) places

all-reserved : (m : Layout) (fs : List Present) → (all_given_back m fs).reserved ≡ m.reserved
all-reserved m [] = refl
all-reserved m (f ∷ fs) = all-reserved (given_back m f.places) fs ∙ given-reserved m f.places

pub prepared-reserved : {rule : Rule} (s t : ContextState) (name : List ℕ) (number : ℕ) → PreparesBy rule s name number t → t.memory.reserved ≡ s.memory.reserved
prepared-reserved s t name number step = sym (all-reserved t.memory step.fresh) ∙ ap (λ (m : Layout). m.reserved) step.prepared.others

pub closed-reserved : (s t : ContextState) (number : ℕ) → Closes s number t → t.memory.reserved ≡ s.memory.reserved
closed-reserved s t number step = ap (λ (m : Layout). m.reserved) step.memory ∙ all-reserved s.memory (unneeded_of t.connections s.present)
