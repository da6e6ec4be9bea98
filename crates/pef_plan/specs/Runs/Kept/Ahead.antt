-- The next fixup, seen from a position that isn't its own: its distance and its table rows.
use Rattle.std.specs.Prelude.{◌≡◌, ℕ, ◌+◌, ◌-◌, List, [], ◌∷◌, Option, None, Some, length, slice_index, slice_index_or}
use Rattle.pef_reloc.specs.declared.fixup.Base.{Base}
use Rattle.pef_reloc.specs.declared.fixup.Base.TheVariants.{Import, Section}
use Rattle.pef_reloc.specs.declared.fixup.Fixup.{Fixup}
use Rattle.pef_cert.specs.Labels.{class_of}
use Rattle.pef_cert.specs.Extension.{change, moved_value}
use Rattle.pef_plan.specs.declared.runs.ahead.NextFixup.{NextFixup}
use Rattle.pef_plan.specs.declared.runs.suffix.SolvedSuffix.{SolvedSuffix}

-- the class of a base's section
abbrev pub class_ahead : List ℕ → Base → Option ℕ
class_ahead registers (Section k) = Some (class_of registers k)
class_ahead registers (Import i) = None

-- the least offer in two classes, from the class of the next section and the least skips there
abbrev pub offer_ahead : Option ℕ → List ℕ → ℕ → ℕ → Option ℕ
offer_ahead None skips c d = None
offer_ahead (Some class) skips c d = Some (change d class + slice_index skips c)

-- the extension in two classes, from their label at the next fixup
abbrev pub value_ahead : NextFixup → ℕ → ℕ → ℕ → ℕ
value_ahead a label c d = moved_value a.bytes label (offer_ahead a.class a.skips.now c d)

-- the next fixup, seen from a position with fixups left
pub record IsAhead (k : SolvedSuffix) (fixups : List Fixup) (p : ℕ) (a : NextFixup) : Type 0 where
  pub first : Fixup
  pub others : List Fixup
  pub parts : fixups ≡ first ∷ others
  pub bytes : a.bytes ≡ first.offset - p
  pub skips : a.skips.now ≡ slice_index_or k.skips.now.rows (length fixups) []
  pub skips_wide : length a.skips.now ≡ length k.registers.now + 1
  pub class : a.class ≡ class_ahead k.registers.now first.base
