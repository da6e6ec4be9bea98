-- The table of places has the new name with its place, and the others as before.
use Rattle.std.proofs.Common.{ℕ, ◌∙◌, List, Some, false, map, refl, sym, ap, subst, set}
use Rattle.std.proofs.lemmas.List.{length-set, map-set}
use Rattle.pef_names.specs.declared.name_key.NameKey.{NameKey}
use Rattle.cfm_store.specs.Kept.Places.{SetsPlace}
use Rattle.cfm_store.specs.Places.{NotesSlice}
use Rattle.cfm_store.specs.Seen.{place_seen}
use Rattle.cfm_store.specs.Stores.{Pair}
use Rattle.cfm_store.proofs.PlaceLemmas.{ArePlaces-filled, IsFreeFor}
use Rattle.cfm_store.proofs.SliceLemmas.{slice-insert, slice-new, slices-filled}
use Rattle.cfm_store.proofs.store.Store.fill.Goals as goal

pub invariant_of-self-2 : goal.invariant_of-self-2
invariant_of-self-2 c =
    let n : Pair = record { name = c.args.name.now; bytes = c.args.bytes.now; free = false } in
    let pairs : List Pair = map place_seen c.self.inside.pairs.items in
    let view = sym c.self.view_is in
    let free : IsFreeFor pairs n.name c.args.place = subst (λ (ps : List Pair). IsFreeFor ps n.name c.args.place) view (record { inside = c.requires.place; free = c.requires.free; none = c.requires.name }) in
    let sets : SetsPlace c.self.inside.places.entries n.name (Some c.args.place) c.insert.new.self.entries = record {
      own = c.in_ok-insert.ensures.updates.1;
      others = λ other apart. c.in_ok-insert.ensures.updates.2 (record { bytes = record { ref_ptr = (0, 0); now = other } }) apart;
    } in
    let items = map-set place_seen c.self.inside.pairs.items c.args.place (Some (c.args.name, c.args.bytes)) in
    let notes : NotesSlice c.self.inside.places.entries c.args.name c.insert.new.self.entries =
    subst (λ (es : List (NameKey × ℕ)). NotesSlice c.self.inside.places.entries c.args.name es) (sym c.in_ok-insert.ensures.entries) (slice-insert (record { bytes = c.args.name }) c.args.place c.self.inside.places.entries) in
    let none = c.self.invariant.places_are n.name ∙ free.none in
    record {
      places_are = rw items (ArePlaces-filled pairs c.args.place n c.self.inside.places.entries _ c.self.invariant.places_are free refl sets);
      slices_are = slices-filled c.self.inside.pairs.items c.args.place c.args.name c.args.bytes free c.self.inside.places.entries c.insert.new.self.entries c.self.invariant.slices_are
          (slice-new c.self.inside.places.entries c.insert.new.self.entries c.args.name n.name notes refl none);
      few = rw (length-set c.self.inside.pairs.items c.args.place (Some (c.args.name, c.args.bytes))) c.self.invariant.few;
    }

pub returns-clause-ok : goal.returns-clause-ok
returns-clause-ok c =
    let n : Pair = record { name = c.args.name.now; bytes = c.args.bytes.now; free = false } in
    map-set place_seen c.self.inside.pairs.items c.args.place (Some (c.args.name, c.args.bytes)) ∙ ap (λ (ps : List Pair). set ps c.args.place n) c.self.view_is
