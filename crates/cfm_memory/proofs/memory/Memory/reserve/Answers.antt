-- The ranges with one more are in turn, no instance meets them, and nothing below the front is free.
use Rattle.std.proofs.Common.{◌≡◌, List, insert, refl, sym, subst, ◌∙◌}
use Rattle.cfm_memory.specs.Kept.Searches.{IsKept}
use Rattle.cfm_memory.specs.Placement.{IsClear, IsFree}
use Rattle.cfm_memory.specs.Reservation.{with_range}
use Rattle.cfm_memory.specs.declared.place.Reserved.{Reserved}
use Rattle.cfm_memory.proofs.Entries.{instances}
use Rattle.cfm_memory.proofs.Reserving.{reserved_kept}
use Rattle.cfm_memory.proofs.memory.Memory.reserve.Goals as goal

pub invariant_of-self-2 : goal.invariant_of-self-2
invariant_of-self-2 c =
    let xs = instances c.self.inside.instances.entries in
    let rs = c.self.inside.reserved.items in
    let y = c.rounded-range.result in
    let is = c.deref.ensures.value in
    let clear = subst (IsClear y.from y.to) is c.in-Some.ensures.clear in
    let free : IsFree c.self.inside.granule.bytes y.from y.to xs = rw (← c.self.view_is) at (c.if-not-is_free.ensures.yes refl) in
    let kept = reserved_kept c.self.inside.granule.bytes c.self.inside.limit c.self.inside.hints.rows xs rs y c.rounded-range.ensures.some c.if-range-gt-GREATEST_END.false free clear c.self.invariant in
    let P : List Reserved → Type 0 = λ ranges. insert ranges c.in-Some.rank y ≡ with_range ranges y in
    let whole : c.insert.new.self.items ≡ with_range rs y = c.in_ok-insert.ensures.items ∙ subst P is c.in-Some.ensures.inserted in
    let Q : List Reserved → Type 0 = λ ranges. IsKept c.self.inside.granule.bytes c.self.inside.limit xs ranges c.self.inside.hints.rows in
    subst Q (sym whole) kept
