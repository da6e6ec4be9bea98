-- Nothing is noted, and no name has a place.
use Rattle.std.proofs.Common.{map, ap}
use Rattle.cfm_closure.specs.Kept.Notes.{name_pair}
use Rattle.cfm_closure.specs.Views.{missing_seen}
use Rattle.cfm_store.proofs.Laws.{ArePlaces-nil}
use Rattle.cfm_closure.proofs.notes.Notes.new.Goals as goal

pub invariant_of-result : goal.invariant_of-result
invariant_of-result c =
    let none = ap (λ items. map name_pair (map missing_seen items)) c.new.ensures.items in
    ArePlaces-nil _ _ none c.new-2.ensures.empty
