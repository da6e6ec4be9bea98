-- A row of labels: the choice at each pair of classes, and the properties of the whole row.
use Rattle.std.proofs.Common.{◌≡◌, ℕ, ◌+◌, ◌*◌, ◌<◌, ◌≤◌, List, length, slice_index, Some, subst}
use Rattle.pef_cert.specs.Labels.{Labels, class_of}
use Rattle.pef_cert.specs.Extension.{skips_at}
use Rattle.pef_reloc.specs.declared.fixup.Base.{Base}
use Rattle.pef_reloc.specs.declared.fixup.Base.TheVariants.{Section}
use Rattle.pef_plan.specs.declared.runs.suffix.SolvedSuffix.{SolvedSuffix}
use Rattle.pef_plan.specs.declared.runs.state.OpenState.{OpenState}
use Rattle.pef_plan.specs.declared.runs.state.FixupState.{FixupState}
use Rattle.pef_plan.specs.Kept.Rows.{SkipsOf}
use Rattle.pef_plan.specs.Runs.Tables.{Agrees}

-- a state of a row, with the registers in two classes
pub record With (a : FixupState) (c d : ℕ) (h : OpenState) : Type 0 where
  pub first : h.first ≡ a.first
  pub others : h.others.now ≡ a.others.now
  pub left : h.place.left.now ≡ a.left.now
  pub position : h.place.position ≡ a.first.offset
  pub import_index : h.place.import_index ≡ a.import_index
  pub c_is : h.place.c ≡ c
  pub d_is : h.place.d ≡ d

-- the least skip with register C in a class
pub record SkipIs (k : SolvedSuffix) (a : FixupState) (section c value : ℕ) : Type 0 where
  pub is : (l : Labels) → Agrees l k a.others.now → skips_at l a.first a.others.now c (class_of k.registers.now section) ≡ Some value
  pub small : value ≤ 4 * length a.others.now + 4

section_same : (j k : ℕ) (b : Base) → b ≡ Section j → b ≡ Section k → j ≡ k
section_same j k b one two = cc

pub skips-of : (k : SolvedSuffix) (a : FixupState) (section : ℕ) (line : List ℕ) → a.first.base ≡ Section section → ((c : ℕ) → c < length k.registers.now + 1 → SkipIs k a section c (slice_index line c)) → SkipsOf k a line
skips-of k a section line base each = record {
  is = λ l other c agrees is under.
      subst (λ (j : ℕ). skips_at l a.first a.others.now c (class_of k.registers.now j) ≡ Some (slice_index line c)) (section_same section other a.first.base base is) ((each c under).is l agrees);
  small = λ c under. (each c under).small;
}
