-- The places after the first are held, as all are.
use Rattle.std.proofs.Common.{◌≡◌, suc, List, ◌∷◌, subst, arith}
use Rattle.cfm_memory.specs.Extents.{AreHeld}
use Rattle.cfm_memory.specs.Instances.{Layout}
use Rattle.cfm_memory.specs.declared.place.Place.{Place}
use Rattle.cfm_prepare.proofs.sections.SectionsIterator.next.Goals as goal

others-held : (m : Layout) (all : List Place) (place : Place) (others : List Place) → all ≡ place ∷ others → AreHeld m all → AreHeld m others
others-held m all place others is held k d under = subst (AreHeld m) is held (suc k) d (omega (arith, under))

pub invariant_of-self : goal.invariant_of-self
invariant_of-self c = record {
  held = others-held c.args.self.now.memory.now c.args.self.now.places.now c.in_ok-place.place.now c.in_ok-place.others.now c.in_ok-place.ensures.cases.0 c.args.self.now.held;
}
