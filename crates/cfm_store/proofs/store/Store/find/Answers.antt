-- The place that the table has is that of a pair, and so is the first one with a long name.
use Rattle.std.proofs.Common.{◌≡◌, ◌∙◌, Some, map, sym, ap}
use Rattle.cfm_store.specs.Seen.{place_seen}
use Rattle.cfm_store.specs.Stores.{place_of}
use Rattle.cfm_store.proofs.PlaceLemmas.{place_below, place_of-below}
use Rattle.cfm_store.proofs.store.Store.find.Goals as goal

pub returns-then-name-gt-LONGEST_HASHED-clause-below : goal.returns-then-name-gt-LONGEST_HASHED-clause-below
returns-then-name-gt-LONGEST_HASHED-clause-below c =
    let items = c.self.inside.pairs.items in
    let is : place_of (map place_seen items) c.args.name.now ≡ Some c.in_ok-place.place =
    ap (λ items. place_of (map place_seen items) c.args.name.now) (sym c.deref.ensures.value) ∙ sym c.in_ok-place.ensures.place in
    rw (← c.self.view_is) (place_of-below (map place_seen items) c.args.name.now c.in_ok-place.place is)

pub returns-clause-below : goal.returns-clause-below
returns-clause-below c =
    rw (← c.self.view_is) (place_below _ c.args.name.now _ (sym (c.copied.ensures ∙ c.get.ensures.value ∙ c.self.invariant.places_are c.args.name.now)))
