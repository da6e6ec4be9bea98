-- A name that has no place gets this one. A name that has one keeps it.
use Rattle.std.proofs.Common.{ℕ, List, refl, sym, subst}
use Rattle.pef_names.specs.declared.name_key.NameKey.{NameKey}
use Rattle.cfm_store.specs.Places.{NotesSlice}
use Rattle.cfm_store.proofs.PlaceLemmas.{NotesPlace-new, NotesPlace-known, none_if}
use Rattle.cfm_store.proofs.SliceLemmas.{slice-insert, slice-known}
use Rattle.cfm_store.proofs.store.note_place.Goals as goal

pub returns-clause-ok : goal.returns-clause-ok
returns-clause-ok c =
    NotesPlace-new c.args.places.now.entries c.args.name.now c.args.place _ (none_if _ (sym c.if-contains_key.ensures)) (record {
      own = c.in_ok-insert.ensures.updates.1;
      others = λ other apart. c.in_ok-insert.ensures.updates.2 (record { bytes = record { ref_ptr = (0, 0); now = other } }) apart;
    })

pub returns-clause-slice : goal.returns-clause-slice
returns-clause-slice c =
    subst (λ (es : List (NameKey × ℕ)). NotesSlice c.args.places.now.entries c.args.name es) (sym c.in_ok-insert.ensures.entries) (slice-insert (record { bytes = c.args.name }) c.args.place c.args.places.now.entries)

pub returns-then-contains_key : goal.returns-then-contains_key
returns-then-contains_key c = record {
  ok = NotesPlace-known c.args.places.now.entries c.args.name.now c.args.place _ (sym c.if-contains_key.ensures) refl;
  slice = slice-known c.args.places.now.entries _ c.args.name (sym c.if-contains_key.ensures) refl;
  err = tt;
}
