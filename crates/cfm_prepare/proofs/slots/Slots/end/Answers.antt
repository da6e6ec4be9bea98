-- No slot is there.
use Rattle.std.proofs.Common.{None, ap, arith, ◌∙◌}
use Rattle.std.proofs.lemmas.List.{get_or_past}
use Rattle.cfm_prepare.specs.Kept.Slots.{slot_places}
use Rattle.cfm_prepare.proofs.SlotLemmas.{kept-places}
use Rattle.cfm_prepare.proofs.slots.Slots.end.Goals as goal

pub returns : goal.returns
returns c = λ p past.
    let slots = c.self.inside.slots.items in
    let none = get_or_past slots p None (omega (arith, past, c.len.ensures, c.self.inside.slots.ok.0)) in
    rw (← c.self.view_is) (kept-places slots c.self.inside.order.items p c.self.invariant ∙ ap slot_places none)
