-- The table of places has the next pair with the name, if there is one.
use Rattle.std.proofs.Common.{◌≡◌, ℕ, ◌<◌, ◌≤◌, ◌∙◌, List, None, Some, Option, Bor, length, map, sym, ap, subst, set, get_or, arith}
use Rattle.std.proofs.lemmas.List.{get_or_default, get_or-map, length-map, length-set, map-set}
use Rattle.pef_names.specs.declared.name_key.NameKey.{NameKey}
use Rattle.cfm_store.specs.Additions.{without_pair}
use Rattle.cfm_store.specs.Kept.Places.{SetsPlace, SetsSlice, slice_of}
use Rattle.cfm_store.specs.Limits.{most_pairs}
use Rattle.cfm_store.specs.Seen.{place_seen}
use Rattle.cfm_store.specs.Stores.{Pair, no_pair, place_of}
use Rattle.cfm_store.proofs.PlaceLemmas.{ArePlaces-removed}
use Rattle.cfm_store.proofs.SliceLemmas.{Place, slices-removed}
use Rattle.cfm_store.proofs.store.Store.remove.Goals as goal

-- without the pair
gone : (items : List (Option (Bor (List ℕ) × Bor (List ℕ)))) (p : ℕ) (x : Option (Bor (List ℕ) × Bor (List ℕ))) → x ≡ None → map place_seen (set items p x) ≡ without_pair (map place_seen items) p
gone items p x is = ap (λ (x : Option (Bor (List ℕ) × Bor (List ℕ))). map place_seen (set items p x)) is ∙ map-set place_seen items p None

pub invariant_of-self-in-Some : goal.invariant_of-self-in-Some
invariant_of-self-in-Some c =
    let items = c.self.inside.pairs.items in
    let pairs : List Pair = map place_seen items in
    let p = c.args.place in
    let name : List ℕ = c.in-Some.name.now in
    let same = ap length c.self.view_is in
    let under : p < length items = let seen = length-map items place_seen in omega (arith, c.requires, same, seen) in
    let here : Some (c.in-Some.name, c.in-Some.field-0-1) ≡ get_or items p None = c.in-Some.ensures.value ∙ c.index_mut.ensures.value ∙ get_or_default items p _ None under in
    let named : (get_or pairs p no_pair).name ≡ name = ap (λ (x : Pair). x.name) (get_or-map place_seen items p None no_pair under ∙ ap place_seen (sym here)) in
    let left = gone items p c.take.new.self c.take.ensures.after in
    let sets = subst (λ (ps : List Pair). SetsPlace c.reserve.new.self.entries name (place_of ps name) c.note_removed.new.places.entries) (ap (map place_seen) c.deref.ensures.value ∙ left) c.note_removed.ensures.place in
    let now = ap (λ (x : Place). set items p x) c.take.ensures.after in
    let slices = subst (λ (ps : List Place). SetsSlice c.reserve.new.self.entries name (slice_of ps name) c.note_removed.new.places.entries) (c.deref.ensures.value ∙ now) c.note_removed.ensures.slice in
    let few : length (set items p c.take.new.self) ≤ most_pairs = rw (length-set items p c.take.new.self) c.self.invariant.few in
    record {
      places_are = rw left (ArePlaces-removed pairs p name c.self.inside.places.entries c.note_removed.new.places.entries c.self.invariant.places_are named
          (subst (λ (es : List (NameKey × ℕ)). SetsPlace es name (place_of (without_pair pairs p) name) c.note_removed.new.places.entries) c.in_ok-reserve.ensures.entries sets));
      slices_are = rw now (slices-removed items p name named c.self.inside.places.entries c.note_removed.new.places.entries c.self.invariant.slices_are
          (subst (λ (es : List (NameKey × ℕ)). SetsSlice es name (slice_of (set items p None) name) c.note_removed.new.places.entries) c.in_ok-reserve.ensures.entries slices));
      few = few;
    }

pub returns-in-Some-clause-ok : goal.returns-in-Some-clause-ok
returns-in-Some-clause-ok c = gone c.self.inside.pairs.items c.args.place c.take.new.self c.take.ensures.after ∙ ap (λ (ps : List Pair). without_pair ps c.args.place) c.self.view_is

pub returns-in_default-clause-ok : goal.returns-in_default-clause-ok
returns-in_default-clause-ok c = gone c.self.inside.pairs.items c.args.place c.take.new.self c.take.ensures.after ∙ ap (λ (ps : List Pair). without_pair ps c.args.place) c.self.view_is
