-- A connection that has the fragment decides.
use Rattle.std.proofs.Common.{◌∙◌, ◌+◌, Option, None, drop, ap, sym}
use Rattle.std.specs.Option.{option_copied, option_or}
use Rattle.std.proofs.lemmas.List.{get_or_default}
use Rattle.cfm_prepare.specs.Contexts.{Open}
use Rattle.cfm_prepare.specs.Kept.Connections.{Numbered, having_in, open_in}
use Rattle.cfm_prepare.specs.Locations.{first_having}
use Rattle.cfm_prepare.specs.declared.connections.Slot.{Slot}
use Rattle.cfm_prepare.proofs.LocationLemmas.{having-at}
use Rattle.cfm_prepare.proofs.connections.Connections.having.Goals as goal

pub loop-slot-preserved : goal.loop-slot-preserved
loop-slot-preserved c =
    let slots = c.deref-slot-items.result.now in
    let i = c.loop-slot.slot-index in
    let p = c.args.position in
    let at = get_or_default slots i (record { number = 0; connected = None }) c.slot-item.result c.loop-slot-test.true ∙ sym c.slot-item.is in
    let none = ap (λ (s : Slot). having_in s.connected p) at ∙ sym c.slot_having.ensures.value ∙ ap option_copied c.in_default.is in
    sym (having-at slots i p c.loop-slot-test.true ∙ ap (λ (o : Option Open). option_or o (first_having (open_in (drop (i + 1) slots)) p)) none) ∙ c.loop-slot.invariant

pub returns-in-Some-clause-first : goal.returns-in-Some-clause-first
returns-in-Some-clause-first c =
    let slots = c.deref-slot-items.result.now in
    let i = c.loop-slot.slot-index in
    let p = c.args.position in
    let at = get_or_default slots i (record { number = 0; connected = None }) c.slot-item.result c.loop-slot-test.true ∙ sym c.slot-item.is in
    let some = ap (λ (s : Slot). having_in s.connected p) at ∙ sym c.slot_having.ensures.value ∙ ap option_copied c.in-Some.is in
    let whole = ap (λ os. first_having os p) (ap open_in c.deref-slot-items.ensures.value ∙ ap (λ (n : Numbered). n.items) c.self.view_is) in
    sym (having-at slots i p c.loop-slot-test.true ∙ ap (λ (o : Option Open). option_or o (first_having (open_in (drop (i + 1) slots)) p)) some) ∙ c.loop-slot.invariant ∙ whole
