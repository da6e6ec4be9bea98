-- One place less is left.
use Rattle.std.proofs.Common.{◌+◌, IsTrue, drop, sym, ap, subst, ◌∙◌, arith}
use Rattle.std.proofs.lemmas.List.{at_drop_more}
use Rattle.cfm_memory.specs.Extents.{given_back, place_at}
use Rattle.cfm_memory.specs.Instances.{Layout, holds_place}
use Rattle.cfm_memory.specs.declared.place.Place.{Place}
use Rattle.cfm_memory.proofs.Laws.{held_elsewhere}
use Rattle.cfm_sections.proofs.places.give_back.Goals as goal

abbrev nowhere : Place
nowhere = record { address = 0; size = 0 }

pub loop-place-preserved : goal.loop-place-preserved
loop-place-preserved c =
    let at = c.loop-place in
    let places = c.args.places.now in
    let next = at_drop_more (given_back at.memory) places at.place-index nowhere c.loop-place-test.true in
    record {
      left = ap (λ (m : Layout). given_back m (drop (at.place-index + 1) places)) c.give_back.ensures.given_back ∙ sym next ∙ at.invariant.left;
      held = λ k low under.
          subst (λ (m : Layout). IsTrue (holds_place m (place_at places k))) (sym c.give_back.ensures.given_back)
          (held_elsewhere at.memory (place_at places at.place-index).address (place_at places k) (c.requires.apart at.place-index k (omega (arith, low)) under) (at.invariant.held k (omega (arith, low)) under));
    }
