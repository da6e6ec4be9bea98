-- The slots of open connections are left.
use Rattle.std.proofs.Common.{◌≡◌, filter, sym, ap, subst, ◌∙◌, rules}
use Rattle.std.proofs.lemmas.List.Elements.{filter_from_retain}
use Rattle.cfm_prepare.specs.Kept.Connections.{AreNumbered, open_in}
use Rattle.cfm_prepare.proofs.ConnectionLemmas.{dropped-at, dropped-is, is_used_slot}
use Rattle.cfm_prepare.proofs.connections.Connections.drop_closed.Goals as goal

pub invariant_of-self : goal.invariant_of-self
invariant_of-self c =
    let slots = c.self.inside.slots.items in
    let whole : c.retain.new.self.items ≡ filter is_used_slot slots = filter_from_retain _ is_used_slot (λ p x b q called. search rules) _ _ _ c.retain.ensures.filtered in
    subst (AreNumbered 0 c.self.inside.given) (sym whole) (dropped-at slots 0 c.self.inside.given c.self.invariant)

pub returns-clause-items : goal.returns-clause-items
returns-clause-items c =
    let slots = c.self.inside.slots.items in
    let whole : c.retain.new.self.items ≡ filter is_used_slot slots = filter_from_retain _ is_used_slot (λ p x b q called. search rules) _ _ _ c.retain.ensures.filtered in
    rw (← c.self.view_is) (ap open_in whole ∙ dropped-is slots)
