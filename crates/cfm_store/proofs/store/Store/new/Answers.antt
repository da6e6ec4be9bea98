-- Without pairs no name has a place.
use Rattle.std.proofs.Common.{map, ap, arith}
use Rattle.cfm_store.specs.Seen.{place_seen}
use Rattle.cfm_store.proofs.PlaceLemmas.{ArePlaces-nil}
use Rattle.cfm_store.proofs.SliceLemmas.{slices-nil}
use Rattle.cfm_store.proofs.store.Store.new.Goals as goal

pub invariant_of-result : goal.invariant_of-result
invariant_of-result c =
    let none = ap (map place_seen) c.new.ensures.items in
    record {
      places_are = ArePlaces-nil _ _ none c.new-2.ensures.empty;
      slices_are = slices-nil _ _ c.new.ensures.items c.new-2.ensures.empty;
      few = rw c.new.ensures.items (omega arith);
    }
