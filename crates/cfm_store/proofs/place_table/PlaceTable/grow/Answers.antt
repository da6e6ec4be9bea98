-- The new places have no values.
use Rattle.std.proofs.Common.{◌≡◌, ◌-◌, ◌≤◌, ◌+◌, ◌++◌, ◌∙◌, List, ℕ, length, replicate, None, ap, sym, arith}
use Rattle.cfm_store.specs.Kept.Numbers.{values_at}
use Rattle.cfm_store.proofs.GrowLemmas.{numbers-grown, sound-grown, values-grown}
use Rattle.cfm_store.proofs.NumberLemmas.{places}
use Rattle.cfm_store.proofs.place_table.PlaceTable.grow.Goals as goal

pub invariant_of-self : goal.invariant_of-self
invariant_of-self g c =
    let numbers = c.self.inside.numbers.items in
    let values = c.self.inside.values.items in
    let low : length numbers ≤ c.args.len = omega (arith, c.if-len.true, c.len.ensures, c.self.inside.numbers.ok.0) in
    let few : length numbers + (c.args.len - length numbers) ≡ c.args.len = omega arith in
    let grown = c.in_ok-resize.ensures.items ∙ numbers-grown numbers c.args.len _ (omega (arith, c.self.inside.numbers.ok.0)) low in
    rw grown (sound-grown numbers values (c.args.len - length numbers) c.self.invariant (omega (arith, few, c.requires)))

pub returns-in_ok-resize-clause-ok : goal.returns-in_ok-resize-clause-ok
returns-in_ok-resize-clause-ok g c =
    let numbers = c.self.inside.numbers.items in
    let values = c.self.inside.values.items in
    let low : length numbers ≤ c.args.len = omega (arith, c.if-len.true, c.len.ensures, c.self.inside.numbers.ok.0) in
    let grown = c.in_ok-resize.ensures.items ∙ numbers-grown numbers c.args.len _ (omega (arith, c.self.inside.numbers.ok.0)) low in
    rw (← c.self.view_is)
    (ap (λ (ns : List ℕ). values_at ns values) grown
    ∙ values-grown numbers values (c.args.len - length numbers)
    ∙ ap (λ (n : ℕ). values_at numbers values ++ replicate (c.args.len - n) None) (sym (places numbers values)))
