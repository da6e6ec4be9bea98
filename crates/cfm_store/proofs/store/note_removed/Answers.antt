-- The name has the place that was found, or none, and the slice that is there.
use Rattle.std.proofs.Common.{ℕ, List, Option, Some, Bor, ◌∙◌, ap, subst, sym}
use Rattle.std.specs.Str.{bytes_eq}
use Rattle.pef_names.specs.declared.name_key.NameKey.{NameKey}
use Rattle.cfm_store.specs.Kept.Places.{SetsSlice}
use Rattle.cfm_store.specs.Places.{NotesSlice, place_in, slice_in}
use Rattle.cfm_store.proofs.SliceLemmas.{slice-insert, slice-new, slice-none, slice-removed, slice-then}
use Rattle.cfm_store.proofs.store.note_removed.Goals as goal

pub returns-in_default-clause-place : goal.returns-in_default-clause-place
returns-in_default-clause-place c = record {
  own = c.shift_remove.ensures.updates.1 ∙ c.in_default.ensures.place;
  others = λ other apart. c.shift_remove.ensures.updates.2 (record { bytes = record { ref_ptr = (0, 0); now = other } }) apart;
}

pub returns-in_default-clause-slice : goal.returns-in_default-clause-slice
returns-in_default-clause-slice c = record {
  own_slice = slice-none c.shift_remove.new.self.entries c.args.name.now c.shift_remove.ensures.updates.1 ∙ c.in_default.ensures.slice;
  other_slices = λ other apart. ap (λ (es : List (NameKey × ℕ)). slice_in es other) c.shift_remove.ensures.entries ∙ slice-removed c.args.name.now c.args.places.now.entries other apart;
}

pub returns-clause-place : goal.returns-clause-place
returns-clause-place c = record {
  own = ap (place_in c.insert.new.self.entries) (sym c.in-Some.ensures.name) ∙ c.in-Ok.ensures.updates.1 ∙ c.in-Some.ensures.place;
  others = λ other apart.
      c.in-Ok.ensures.updates.2 (record { bytes = record { ref_ptr = (0, 0); now = other } }) (ap (λ (name : List ℕ). bytes_eq name other) c.in-Some.ensures.name ∙ apart)
      ∙ c.shift_remove.ensures.updates.2 (record { bytes = record { ref_ptr = (0, 0); now = other } }) apart;
}

pub returns-clause-slice : goal.returns-clause-slice
returns-clause-slice c =
    let old = c.args.places.now.entries in
    let mid = c.shift_remove.new.self.entries in
    let new = c.insert.new.self.entries in
    let notes : NotesSlice mid c.in-Some.name new = subst (λ (es : List (NameKey × ℕ)). NotesSlice mid c.in-Some.name es) (sym c.in-Ok.ensures.entries) (slice-insert (record { bytes = c.in-Some.name }) c.in-Some.place mid) in
    let sets : SetsSlice mid c.args.name.now (Some c.in-Some.name) new = slice-new mid new c.in-Some.name c.args.name.now notes c.in-Some.ensures.name c.shift_remove.ensures.updates.1 in
    subst (λ (slice : Option (Bor (List ℕ))). SetsSlice old c.args.name.now slice new) c.in-Some.ensures.slice
    (slice-then old mid new c.args.name.now (Some c.in-Some.name)
    (λ other apart. ap (λ (es : List (NameKey × ℕ)). slice_in es other) c.shift_remove.ensures.entries ∙ slice-removed c.args.name.now old other apart)
    sets)
