-- Valid certificates.
use Rattle.std.specs.Prelude.{◌≡◌, ℕ, ◌+◌, ◌-◌, ◌*◌, ◌==◌, Bool, true, false, ◌||◌, List, [], ◌∷◌, ◌++◌, length, slice_index, slice_index_or}
use Rattle.std.specs.List.{AllByRecursion}
use Rattle.pef_reloc.specs.declared.fixup.Fixup.{Fixup}
use Rattle.pef_reloc.specs.Deliveries.{uses_section}
use Rattle.pef_reloc.specs.Fixups.{fixups_fit}
use Rattle.pef_reloc.specs.Instrs.{program_length}
use Rattle.pef_reloc.specs.Steps.{Makes, is_flat, start}
use Rattle.pef_cert.specs.Certified.{Certified}
use Rattle.pef_labels.specs.Rising.{above_all}
use Rattle.pef_cert.specs.Labels.{Labels}
use Rattle.pef_cert.specs.Extension.{extension_at}
use Rattle.pef_cert.specs.Feasible.{Feasible}

-- a number is one of a list
abbrev pub is_among : List ℕ → ℕ → Bool
is_among [] k = false
is_among (r ∷ registers) k = r == k || is_among registers k

-- each number is above the one before it
abbrev pub rises : List ℕ → Bool
rises [] = true
rises (r ∷ registers) = above_all r registers

-- the sections that the fixups use, rising
pub record RegistersOf (fixups : List Fixup) (registers : List ℕ) : Type 0 where
  pub rising : rises registers ≡ true
  pub used : (k : ℕ) → is_among registers k ≡ uses_section fixups k

-- labels in rows, one for each of this many fixups and one for the end: row i has those of the states
-- at fixup i, with the classes of C outside and those of D inside
abbrev pub labels_in : List ℕ → List (List ℕ) → ℕ → Labels
labels_in registers rows count = record {
  registers = registers;
  label = λ left c d. slice_index (slice_index_or rows (count - left) []) (c * (length registers + 1) + d);
}

-- the labels of a certificate for this many fixups
abbrev pub labels_of : Certified → ℕ → Labels
labels_of c count = labels_in c.registers c.labels count

-- a certificate that holds for some fixups
pub record Valid (fixups : List Fixup) (c : Certified) : Type 0 where
  pub registers : RegistersOf fixups c.registers
  pub rows : length c.labels ≡ length fixups + 1
  pub row : AllByRecursion (λ row. length row ≡ (length c.registers + 1) * (length c.registers + 1)) c.labels
  pub feasible : Feasible (labels_of c (length fixups)) fixups
  pub flat : is_flat c.program ≡ true
  pub makes : Makes fixups c.program
  pub length_is : program_length c.program ≡ extension_at (labels_of c (length fixups)) fixups start

-- labels that may be trusted for some fixups, of which some are made and others left
pub record Trusted (l : Labels) (fixups made left : List Fixup) : Type 0 where
  pub fit : fixups_fit fixups ≡ true
  pub registers : RegistersOf fixups l.registers
  pub feasible : Feasible l fixups
  pub parts : fixups ≡ made ++ left
