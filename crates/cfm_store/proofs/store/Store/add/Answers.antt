-- The table of places has all pairs.
use Rattle.std.proofs.Common.{◌≡◌, ℕ, ◌+◌, ◌<◌, ◌≤◌, length, map, ap, refl, sym, subst, ◌∙◌, arith}
use Rattle.std.proofs.lemmas.List.{length-map, length_push, map_push}
use Rattle.cfm_store.specs.Places.{ArePlaces}
use Rattle.cfm_store.specs.Seen.{place_seen}
use Rattle.cfm_store.proofs.SliceLemmas.{AreSlices, slices-push}
use Rattle.cfm_store.proofs.store.Store.add.Goals as goal
use Rattle.cfm_store.specs.Limits.{most_pairs}

one_more : (n : ℕ) {m : ℕ} → m ≡ n + 1 → n < most_pairs → m ≤ most_pairs
one_more n more few = omega arith

pub invariant_of-self-2 : goal.invariant_of-self-2
invariant_of-self-2 c =
    let items = ap (map place_seen) (c.in_ok-push.ensures.items) ∙ map_push place_seen _ _ in
    let last = c.len-place.ensures ∙ c.reserve.new.self.ok.0 ∙ sym (length-map c.reserve.new.self.items place_seen) in
    let same : c.reserve.new.self.items ≡ c.self.inside.pairs.items = c.in_ok-reserve.ensures.items in
    let before = subst (λ ps. ArePlaces (map place_seen ps) c.self.inside.places.entries) (sym same) c.self.invariant.places_are in
    let slices = subst (λ ps. AreSlices ps c.self.inside.places.entries) (sym same) c.self.invariant.slices_are in
    let places = subst (λ ps. ArePlaces ps c.note_place.new.places.entries) (sym items) (c.in_ok-note_place.ensures.ok _ _ before refl refl last) in
    let pushed = slices-push c.reserve.new.self.items c.args.name c.args.bytes c.self.inside.places.entries c.note_place.new.places.entries before slices c.in_ok-note_place.ensures.slice in
    let long = ap length c.in_ok-push.ensures.items ∙ length_push c.reserve.new.self.items _ in
    let old = ap length same ∙ sym (length-map c.self.inside.pairs.items place_seen) ∙ ap length c.self.view_is in
    record {
      places_are = places;
      slices_are = subst (λ ps. AreSlices ps c.note_place.new.places.entries) (sym c.in_ok-push.ensures.items) pushed;
      few = one_more (length c.args.self.now) (long ∙ ap (λ n. n + 1) old) c.requires;
    }
