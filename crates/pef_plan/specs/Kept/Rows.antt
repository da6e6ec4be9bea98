-- A row of labels, from the values of the instructions that add at a fixup.
use Rattle.std.specs.Prelude.{◌≡◌, ◌≢◌, ◌≤◌, ◌<◌, ◌⊎◌, ◌==◌, ℕ, ◌+◌, ◌*◌, true, List, ◌∷◌, length, min, slice_index, Some}
use Rattle.pef_reloc.specs.Steps.{State}
use Rattle.pef_cert.specs.Labels.{Labels, class_of}
use Rattle.pef_cert.specs.Extension.{extension, skips_at}
use Rattle.pef_cert.specs.Feasible.{AtFixup}
use Rattle.pef_reloc.specs.declared.fixup.Base.TheVariants.{Section}
use Rattle.pef_cert.specs.LabelTests.{base_test, second_test}
use Rattle.pef_plan.specs.declared.runs.suffix.SolvedSuffix.{SolvedSuffix}
use Rattle.pef_plan.specs.declared.runs.state.FixupState.{FixupState}
use Rattle.pef_plan.specs.declared.runs.state.OpenState.{OpenState}
use Rattle.pef_plan.specs.declared.rows.Cross.{Cross}
use Rattle.pef_plan.specs.Kept.Met.{MetInC, MetInD}
use Rattle.pef_plan.specs.Runs.Places.{Led}
use Rattle.pef_plan.specs.Runs.Tables.{Agrees, number_in}
use Rattle.pef_plan.specs.Runs.Leads.{LeadsWithin}

-- the least value of an instruction that adds at a fixup, with the registers in these classes
pub record DirectIs (k : SolvedSuffix) (a : FixupState) (c d value : ℕ) : Type 0 where
  pub least : (l : Labels) (n : ℕ) → Agrees l k a.others.now → n ≤ value → base_test l n a.import_index a.first a.others.now c d a.first.base ≡ true
  pub led : (l : Labels) (s : State) → Agrees l k a.others.now → AtFixup a.first a.import_index s → class_of l.registers s.c ≡ c → class_of l.registers s.d ≡ d → LeadsWithin l s (a.first ∷ a.others.now) value
  pub small : value ≤ 4 * length a.others.now + 4

abbrev pub DirectRow : SolvedSuffix → FixupState → List ℕ → Type 0
DirectRow k a row = (c d : ℕ) → c < length k.registers.now + 1 → d < length k.registers.now + 1 → DirectIs k a c d (number_in (length k.registers.now + 1) row c d)

-- the state at a fixup, with the registers in these classes
abbrev pub state_of : FixupState → ℕ → ℕ → OpenState
state_of a c d = record {
  place = record { left = a.left; position = a.first.offset; import_index = a.import_index; c = c; d = d };
  first = a.first;
  others = a.others;
}

-- P holds for each number of a row and the state with the registers in the number's classes
abbrev pub EachState : SolvedSuffix → FixupState → (OpenState → ℕ → Type 0) → List ℕ → Type 0
EachState k a P row = (c d : ℕ) → c < length k.registers.now + 1 → d < length k.registers.now + 1 → P (state_of a c d) (number_in (length k.registers.now + 1) row c d)

-- an instruction that adds at a fixup has at most this value, and the value is at most that of one addition
-- with this cost
pub record Adds (k : SolvedSuffix) (h : OpenState) (cost value : ℕ) : Type 0 where
  pub led : Led k h value
  pub low : (l : Labels) → Agrees l k h.others.now → value ≤ cost + extension l h.others.now (h.first.offset + 4) h.place.c h.place.d
  pub small : value ≤ 4 * length h.others.now + 4

-- the value is also at most that of a section's runs, if register C holds the section
pub record AddsInC (k : SolvedSuffix) (h : OpenState) (section value : ℕ) : Type 0 where
  pub adds : Adds k h 1 value
  pub in_c : (l : Labels) (n : ℕ) → Agrees l k h.others.now → n ≤ value → (class_of l.registers section == h.place.c) ≡ true → MetInC l h section n

-- the value is also at most that of the section's runs in register D, if that register holds the section
pub record AddsInBoth (k : SolvedSuffix) (h : OpenState) (section value : ℕ) : Type 0 where
  pub first : AddsInC k h section value
  pub in_d : (l : Labels) (n : ℕ) → Agrees l k h.others.now → n ≤ value → (class_of l.registers section == h.place.d) ≡ true → MetInD l h section n

-- from the states with register C in a class, an instruction leads on within the numbers of a line, by the class of D
abbrev pub LineLed : SolvedSuffix → FixupState → ℕ → List ℕ → Type 0
LineLed k a class line = (d : ℕ) → d < length k.registers.now + 1 → Led k (state_of a class d) (slice_index line d)

-- the numbers are at most those of the runs of pairs that begin with a section in that class
abbrev pub PairsInLine : SolvedSuffix → FixupState → ℕ → ℕ → List ℕ → Type 0
PairsInLine k a section class line = (d : ℕ) → d < length k.registers.now + 1 → (l : Labels) (n : ℕ) → Agrees l k a.others.now → n ≤ slice_index line d → second_test l n section class d a.first a.others.now ≡ true

-- numbers of a row were lowered in some places only, by so much in total
pub record LowersIn (count : ℕ) (In : ℕ → ℕ → Type 0) (old new : List ℕ) (saved : ℕ) : Type 0 where
  pub low : (c d : ℕ) → c < count → d < count → number_in count new c d ≤ number_in count old c d
  pub others : (c d : ℕ) → c < count → d < count → (In c d → ⊥) → number_in count new c d ≡ number_in count old c d
  pub none : saved ≡ 0 → (c d : ℕ) → c < count → d < count → number_in count new c d ≡ number_in count old c d

-- a value is the least of count numbers
pub record LeastOf (count : ℕ) (f : ℕ → ℕ) (value : ℕ) : Type 0 where
  pub low : (x : ℕ) → x < count → value ≤ f x
  pub at : ℕ
  pub under : at < count
  pub is : f at ≡ value

-- each label of a row is the least over all changes of registers
pub record ClosedOf (count : ℕ) (direct row : List ℕ) : Type 0 where
  pub below : (c d : ℕ) → c < count → d < count → number_in count row c d ≤ number_in count direct c d
  pub c_line : (c e d : ℕ) → c < count → e < count → d < count → number_in count row c d ≤ 1 + number_in count row e d
  pub d_line : (c d e : ℕ) → c < count → d < count → e < count → number_in count row c d ≤ 1 + number_in count row c e
  pub from : (c d : ℕ) → c < count → d < count → (number_in count row c d ≡ number_in count direct c d) ⊎ (((e : ℕ) × (e < count) × (1 + number_in count row e d ≤ number_in count row c d)) ⊎ ((e : ℕ) × (e < count) × (1 + number_in count row c e ≤ number_in count row c d)))

-- the labels at a fixup
pub record RowOf (k : SolvedSuffix) (a : FixupState) (row : List ℕ) : Type 0 where
  pub direct : List ℕ
  pub direct_is : DirectRow k a direct
  pub closed : ClosedOf (length k.registers.now + 1) direct row

-- what bounds the labels of each column: in the column of the cross the change of register C, and in the others the
-- change of register C to the class of the cross, and that of both registers
pub record TopsOf (count : ℕ) (direct : List ℕ) (x : Cross) (tops : List ℕ) : Type 0 where
  pub class : slice_index tops x.class ≡ min (x.column + 1) (x.line + 2)
  pub others : (d : ℕ) → d < count → d ≢ x.class → slice_index tops d ≡ min (number_in count direct x.class d + 1) (min x.line x.column + 2)

-- all numbers of a line of this length are small
abbrev pub SmallLine : ℕ → List ℕ → Type 0
SmallLine count line = (d : ℕ) → d < count → slice_index line d ≤ 1048576

-- the least skips at a fixup with a section, by the class of C
pub record SkipsOf (k : SolvedSuffix) (a : FixupState) (line : List ℕ) : Type 0 where
  pub is : (l : Labels) (section c : ℕ) → Agrees l k a.others.now → a.first.base ≡ Section section → c < length k.registers.now + 1 → skips_at l a.first a.others.now c (class_of k.registers.now section) ≡ Some (slice_index line c)
  pub small : (c : ℕ) → c < length k.registers.now + 1 → slice_index line c ≤ 4 * length a.others.now + 4
