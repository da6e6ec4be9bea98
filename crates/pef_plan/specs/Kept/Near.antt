-- How much the extension differs between classes: right after a fixup, and later.
use Rattle.std.specs.Prelude.{◌≡◌, ◌≢◌, ◌≤◌, ◌<◌, ℕ, ◌+◌, List, ◌++◌, length}
use Rattle.pef_reloc.specs.declared.fixup.Fixup.{Fixup}
use Rattle.pef_cert.specs.Labels.{Labels}
use Rattle.pef_cert.specs.Extension.{extension}
use Rattle.pef_plan.specs.declared.runs.ends.RunEnds.{RunEnds}
use Rattle.pef_plan.specs.declared.runs.suffix.SolvedSuffix.{SolvedSuffix}
use Rattle.pef_plan.specs.Runs.Tables.{Agrees, number_in}

-- the change of one register changes the numbers of a row by at most 1
pub record StepsOf (count : ℕ) (row : List ℕ) : Type 0 where
  pub c_line : (c e d : ℕ) → c < count → e < count → d < count → number_in count row c d ≤ 1 + number_in count row e d
  pub d_line : (c d e : ℕ) → c < count → d < count → e < count → number_in count row c d ≤ 1 + number_in count row c e

-- the change of one register to a class other than this one changes the numbers by at most 1, if the other register
-- isn't in this class
pub record StepsBeside (count class : ℕ) (row : List ℕ) : Type 0 where
  pub c_line : (c e d : ℕ) → c < count → e < count → d < count → e ≢ class → d ≢ class → number_in count row c d ≤ 1 + number_in count row e d
  pub d_line : (c d e : ℕ) → c < count → d < count → e < count → c ≢ class → e ≢ class → number_in count row c d ≤ 1 + number_in count row c e

-- the first property, of the extension right after a fixup
abbrev pub NearSteps : SolvedSuffix → RunEnds → Type 0
NearSteps k e = StepsOf (length k.registers.now + 1) e.near.items

-- and of the extension at each suffix of some fixups, for labels that the tables agree with
pub record StepsFrom (k : SolvedSuffix) (fixups : List Fixup) : Type 0 where
  pub labels : Labels
  pub agrees : Agrees labels k fixups
  pub c_line : (front left : List Fixup) (p c e d : ℕ) → fixups ≡ front ++ left → c < length k.registers.now + 1 → e < length k.registers.now + 1 → d < length k.registers.now + 1 → extension labels left p c d ≤ 1 + extension labels left p e d
  pub d_line : (front left : List Fixup) (p c d e : ℕ) → fixups ≡ front ++ left → c < length k.registers.now + 1 → d < length k.registers.now + 1 → e < length k.registers.now + 1 → extension labels left p c d ≤ 1 + extension labels left p c e
