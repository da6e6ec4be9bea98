-- The place is one of a fragment that is present, so it is held.
use Rattle.std.proofs.Common.{◌≡◌, List, Some, IsTrue, option_map, slice_get, sym, ap, subst, ◌∙◌}
use Rattle.std.specs.Option.{option_and_then}
use Rattle.std.proofs.lemmas.Option.{slice_get-get_or}
use Rattle.cfm_memory.proofs.Laws.{part_clear}
use Rattle.cfm_memory.specs.Extents.{AreHeld}
use Rattle.cfm_memory.specs.Instances.{holds_place}
use Rattle.cfm_memory.specs.Limits.{first_address}
use Rattle.cfm_memory.specs.declared.place.Place.{Place}
use Rattle.cfm_prepare.specs.Fragments.{places_of}
use Rattle.cfm_prepare.specs.Sections.{held_at}
use Rattle.cfm_prepare.proofs.SectionLemmas.{laid-below}
use Rattle.cfm_prepare.proofs.ReadyLemmas.{places-held}
use Rattle.cfm_prepare.proofs.fragments.Fragments.section.Goals as goal

pub part-requires : goal.part-requires
part-requires c =
    let m = c.self.inside.memory in
    let found = c.in_ok-place.ensures.lookup.3 in
    let place = c.in_ok-place.field-0.now in
    let is : c.places.result.now ≡ places_of c.self.inside.present.items c.args.position = c.places.ensures in
    let P : List Place → Type 0 = λ ps. AreHeld m ps in
    let Q : Place → Type 0 = λ q. IsTrue (holds_place m q) in
    subst Q (sym (found.1 place)) (subst P (sym is) (places-held m c.self.inside.present.items c.args.position c.self.invariant.held) c.args.i place found.0)

pub returns-clause-section : goal.returns-clause-section
returns-clause-section c =
    let m = c.self.inside.memory in
    let found = c.in_ok-place.ensures.lookup.3 in
    let place = c.in_ok-place.field-0.now in
    let is : c.places.result.now ≡ places_of c.self.inside.present.items c.args.position = c.places.ensures in
    let got : slice_get (places_of c.self.inside.present.items c.args.position) c.args.i ≡ Some place =
    ap (λ ps. slice_get ps c.args.i) (sym is) ∙ slice_get-get_or c.places.result.now c.args.i place found.0 ∙ ap Some (sym (found.1 place)) in
    rw (← c.self.view_is) (sym (ap (option_and_then (held_at m)) got ∙ ap (λ o. option_map (λ bytes. (place.address, bytes)) o) c.part.ensures.bytes))

pub returns-clause-within : goal.returns-clause-within
returns-clause-within c =
    let m = c.self.inside.memory in
    rw (← c.self.view_is) (laid-below m.granule first_address m.limit m.instances c.in_ok-place.field-0.now.address c.part.result.now c.part.ensures.in_order.laid_out c.part.ensures.bytes)

pub returns-clause-clear : goal.returns-clause-clear
returns-clause-clear c =
    let m = c.self.inside.memory in
    rw (← c.self.view_is) (part_clear m c.in_ok-place.field-0.now.address c.part.result.now c.part.ensures.in_order c.part.ensures.bytes)
