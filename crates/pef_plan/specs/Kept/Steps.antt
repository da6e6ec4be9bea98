-- The steps that read a program from the tables.
use Rattle.std.specs.Prelude.{◌≡◌, ◌≤◌, ◌<◌, ℕ, ◌+◌, ◌-◌, ◌*◌, ◌%◌, ◌==◌, Some, true, List, ◌∷◌, ◌++◌, length}
use Rattle.std.specs.List.{AllByRecursion}
use Rattle.pef_reloc.specs.declared.fixup.Fixup.{Fixup}
use Rattle.pef_reloc.specs.declared.instr.Instr.{Instr}
use Rattle.pef_reloc.specs.Fixups.{fixup_fits}
use Rattle.pef_reloc.specs.Instrs.{instr_length, program_length}
use Rattle.pef_reloc.specs.Steps.{State, is_flat, start, state_after, trace}
use Rattle.pef_cert.specs.Labels.{Labels}
use Rattle.pef_cert.specs.Extension.{extension_at, offer_at}
use Rattle.pef_cert.specs.Feasible.{FeasibleFrom}
use Rattle.pef_cert.specs.Valid.{is_among, rises}
use Rattle.pef_plan.specs.declared.runs.suffix.SolvedSuffix.{SolvedSuffix}
use Rattle.pef_plan.specs.declared.runs.state.PlanState.{PlanState}
use Rattle.pef_plan.specs.declared.runs.state.OpenState.{OpenState}
use Rattle.pef_plan.specs.declared.runs.state.Step.{Step}
use Rattle.pef_plan.specs.Runs.Places.{Counts, Goes, InPlace, extension_in}
use Rattle.pef_plan.specs.Runs.Tables.{Agrees, Shaped, label_in}
use Rattle.pef_plan.specs.Reached.{ReachedFrom}
use Rattle.pef_reloc.specs.Limits.{most_fixups, most_imports, most_sections}

-- the maximum length of a program: four halfwords for each fixup, and two more
abbrev pub most_halfwords : ℕ
most_halfwords = 4 * most_fixups + 2

-- the maximum position; it leaves room for 8,192 bytes for each halfword
abbrev pub most_position : ℕ
most_position = 4294967296

-- the labels that tables have
abbrev pub labels_tabled : SolvedSuffix → Labels
labels_tabled k = record { registers = k.registers.now; label = λ left c d. label_in (length k.registers.now + 1) k.labels.now.rows left c d }

-- registers are in rising order, and each is the number of a section
pub record Sections (registers : List ℕ) : Type 0 where
  pub rising : rises registers ≡ true
  pub below : (k : ℕ) → is_among registers k ≡ true → k < most_sections

-- a place with fixups left, and tables that cover all of them
pub record Tracked (k : SolvedSuffix) (p : PlanState) : Type 0 where
  pub sections : Sections k.registers.now
  pub shaped : Shaped k (length p.left.now)
  pub c : p.c < length k.registers.now + 1
  pub d : p.d < length k.registers.now + 1
  pub fit : AllByRecursion (λ f. fixup_fits f ≡ true) p.left.now
  pub counts : AllByRecursion (λ f. Counts k.registers.now f.base) p.left.now
  pub import_small : p.import_index ≤ most_imports
  pub position_small : p.position ≤ most_position
  pub agrees : Agrees (labels_tabled k) k p.left.now
  pub feasible : FeasibleFrom (labels_tabled k) p.import_index p.left.now
  pub reached : ReachedFrom (labels_tabled k) p.import_index p.left.now

pub record TrackedHere (k : SolvedSuffix) (h : OpenState) : Type 0 where
  pub at : Tracked k h.place
  pub parts : h.place.left.now ≡ h.first ∷ h.others.now

-- a step from a state in a place; the extension falls by at least the instruction's halfwords
pub record Falls (k : SolvedSuffix) (p : PlanState) (x : Step) (s : State) : Type 0 where
  pub goes : Goes k.registers.now p x s
  pub falls : instr_length x.instr + extension_in (labels_tabled k) x.next ≤ extension_in (labels_tabled k) p

abbrev pub FallsOn : SolvedSuffix → PlanState → Step → Type 0
FallsOn k p x = (s : State) → InPlace k.registers.now p s → Falls k p x s

-- a place that a skip to the fixup can begin at; the extension there is an offer
pub record SkipsTo (k : SolvedSuffix) (h : OpenState) : Type 0 where
  pub after : 4 ≤ h.first.offset - h.place.position
  pub before : h.first.offset - h.place.position ≤ 1020
  pub even : ((h.first.offset - h.place.position) % 4 == 0) ≡ true
  pub offer : offer_at (labels_tabled k) h.first h.others.now h.place.c h.place.d ≡ Some (extension_in (labels_tabled k) h.place)

-- the instructions read from tables so far, and the place after them; each halfword moves by fewer than 8,192
-- bytes
pub record ReadTo (k : SolvedSuffix) (fixups : List Fixup) (instrs : List Instr) (p : PlanState) : Type 0 where
  pub tracked : Tracked k p
  pub in_place : InPlace k.registers.now p (state_after instrs start)
  pub flat : is_flat instrs ≡ true
  pub made : fixups ≡ trace instrs start ++ p.left.now
  pub short : program_length instrs + extension_in (labels_tabled k) p ≤ extension_at (labels_tabled k) fixups start
  pub near : p.position + 8192 * extension_in (labels_tabled k) p ≤ most_position
