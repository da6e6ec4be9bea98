-- The ranges without one are in turn, no instance meets them, and the lowered hints hold.
use Rattle.std.proofs.Common.{◌≡◌, ℕ, List, None, Some, length, remove, refl, sym, ap, subst, ◌∙◌, inr, arith}
use Rattle.cfm_memory.specs.Kept.Searches.{range_number}
use Rattle.cfm_memory.specs.Reservation.{without_range}
use Rattle.cfm_memory.specs.declared.place.Reserved.{Reserved}
use Rattle.cfm_memory.proofs.Entries.{instances}
use Rattle.cfm_memory.proofs.Reserving.{number_found, number_none, unreserved_kept}
use Rattle.cfm_memory.proofs.memory.Memory.unreserve.Goals as goal

-- the ranges without the one that has the number
removed_is : (rs : List Reserved) (y : Reserved) (i : ℕ) → range_number rs y 0 ≡ Some i → remove rs i ≡ without_range rs y
removed_is rs y i is =
    let there = number_found rs y 0 i is in
    let same : there.0 ≡ i = omega (arith, there.1) in
    subst (λ k. remove rs k ≡ without_range rs y) same there.4

pub returns-in_default-clause-refused : goal.returns-in_default-clause-refused
returns-in_default-clause-refused c = λ tells.
    let y = c.rounded-range.result in
    let none = subst (λ (rs : List Reserved). range_number rs y 0 ≡ None) c.deref.ensures.value (sym c.number_of.ensures ∙ c.in_default.is) in
    let lacks = number_none c.self.inside.reserved.items y 0 none in
    rw (← c.self.view_is, ← c.rounded-range.ensures.range) ((omega arith, lacks), refl)

pub remove-requires : goal.remove-requires
remove-requires c =
    let y = c.rounded-range.result in
    let found = subst (λ (rs : List Reserved). range_number rs y 0 ≡ Some c.in-Some.number) c.deref.ensures.value (sym c.number_of.ensures ∙ c.in-Some.is) in
    let there = number_found c.self.inside.reserved.items y 0 c.in-Some.number found in
    omega (arith, there.1, there.2, ap (λ (rs : List Reserved). length rs) c.deref.ensures.value, c.deref.ensures.len)

pub invariant_of-self : goal.invariant_of-self
invariant_of-self c =
    let y = c.rounded-range.result in
    let found = subst (λ (rs : List Reserved). range_number rs y 0 ≡ Some c.in-Some.number) c.deref.ensures.value (sym c.number_of.ensures ∙ c.in-Some.is) in
    let whole : c.remove.new.self.items ≡ without_range c.self.inside.reserved.items y = c.remove.ensures.items ∙ removed_is c.self.inside.reserved.items y c.in-Some.number found in
    rw whole (unreserved_kept c.self.inside.granule.bytes c.self.inside.limit c.self.inside.hints.rows c.lower.new.self.rows (instances c.self.inside.instances.entries) c.self.inside.reserved.items y c.lower.ensures.len c.lower.ensures.rows c.self.invariant)

pub returns-clause-freed : goal.returns-clause-freed
returns-clause-freed c = λ tells.
    let y = c.rounded-range.result in
    let found = subst (λ (rs : List Reserved). range_number rs y 0 ≡ Some c.in-Some.number) c.deref.ensures.value (sym c.number_of.ensures ∙ c.in-Some.is) in
    let whole : c.remove.new.self.items ≡ without_range c.self.inside.reserved.items y = c.remove.ensures.items ∙ removed_is c.self.inside.reserved.items y c.in-Some.number found in
    let there = number_found c.self.inside.reserved.items y 0 c.in-Some.number found in
    rw (← c.self.view_is, ← c.rounded-range.ensures.range, whole) (inr (omega arith, there.3, refl))
