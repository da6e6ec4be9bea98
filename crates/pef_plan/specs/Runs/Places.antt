-- The places that the planner visits, and the steps between them.
use Rattle.std.specs.Prelude.{if◌then◌else◌, ◌≡◌, ◌≤◌, ◌<◌, ℕ, ◌+◌, nat_le, true, List, ◌∷◌, length}
use Rattle.std.specs.List.{AllByRecursion}
use Rattle.pef_reloc.specs.declared.fixup.Base.{Base}
use Rattle.pef_reloc.specs.declared.fixup.Base.TheVariants.{Section, Import}
use Rattle.pef_reloc.specs.Deliveries.{Delivers, is_flat_instr}
use Rattle.pef_reloc.specs.Fixups.{fixup_fits}
use Rattle.pef_reloc.specs.Instrs.{instr_length}
use Rattle.pef_reloc.specs.Steps.{State, next_state}
use Rattle.pef_cert.specs.Labels.{Labels, class_of}
use Rattle.pef_cert.specs.Extension.{extension}
use Rattle.pef_plan.specs.declared.runs.suffix.SolvedSuffix.{SolvedSuffix}
use Rattle.pef_plan.specs.declared.runs.state.PlanState.{PlanState}
use Rattle.pef_plan.specs.declared.runs.state.OpenState.{OpenState}
use Rattle.pef_plan.specs.declared.runs.state.Step.{Step}
use Rattle.pef_plan.specs.declared.runs.state.Choice.{Choice}
use Rattle.pef_plan.specs.declared.runs.state.FixupState.{FixupState}
use Rattle.pef_plan.specs.Runs.Leads.{LeadsWithin}
use Rattle.pef_plan.specs.Runs.Tables.{Agrees, Shaped}
use Rattle.pef_reloc.specs.Limits.{most_imports}

-- a state is at a place
pub record InPlace (registers : List ℕ) (p : PlanState) (s : State) : Type 0 where
  pub position : s.position ≡ p.position
  pub import_index : s.import_index ≡ p.import_index
  pub c : class_of registers s.c ≡ p.c
  pub d : class_of registers s.d ≡ p.d

-- a step from a state at a place: its instruction adds exactly the fixups up to the next place
pub record Goes (registers : List ℕ) (p : PlanState) (x : Step) (s : State) : Type 0 where
  pub flat : is_flat_instr x.instr ≡ true
  pub delivers : Delivers x.instr s p.left.now x.next.left.now
  pub next : InPlace registers x.next (next_state x.instr s)

abbrev pub GoesOn : List ℕ → PlanState → Step → Type 0
GoesOn registers p x = (s : State) → InPlace registers p s → Goes registers p x s

-- the extension at a place
abbrev pub extension_in : Labels → PlanState → ℕ
extension_in l p = extension l p.left.now p.position p.c p.d

-- the value of a choice is the sum of its halfwords and the extension after it
abbrev pub Worth : Labels → Choice → Type 0
Worth l x = x.value ≡ instr_length x.step.instr + extension_in l x.step.next

-- a base that is an import, or a section among the registers
abbrev pub Counts : List ℕ → Base → Type 0
Counts registers (Section k) = class_of registers k < length registers
Counts registers (Import k) = Unit {0}

-- a place with fixups left, and tables that cover all fixups after the first
pub record HereOf (k : SolvedSuffix) (h : OpenState) : Type 0 where
  pub parts : h.place.left.now ≡ h.first ∷ h.others.now
  pub shaped : Shaped k (length h.others.now)
  pub c : h.place.c < length k.registers.now + 1
  pub d : h.place.d < length k.registers.now + 1
  pub fit : AllByRecursion (λ f. fixup_fits f ≡ true) (h.first ∷ h.others.now)
  pub counts : AllByRecursion (λ f. Counts k.registers.now f.base) (h.first ∷ h.others.now)
  pub import_small : h.place.import_index ≤ most_imports

-- the same with the registers in any classes
pub record AtOf (k : SolvedSuffix) (a : FixupState) : Type 0 where
  pub parts : a.left.now ≡ a.first ∷ a.others.now
  pub shaped : Shaped k (length a.others.now)
  pub fit : AllByRecursion (λ f. fixup_fits f ≡ true) (a.first ∷ a.others.now)
  pub counts : AllByRecursion (λ f. Counts k.registers.now f.base) (a.first ∷ a.others.now)
  pub import_small : a.import_index ≤ most_imports

-- a choice at such a place
pub record Chosen (k : SolvedSuffix) (h : OpenState) (x : Choice) : Type 0 where
  pub goes : GoesOn k.registers.now h.place x.step
  pub worth : (l : Labels) → Agrees l k h.others.now → Worth l x

-- from each state at a place an instruction leads on within a number of halfwords
abbrev pub Led : SolvedSuffix → OpenState → ℕ → Type 0
Led k h value = (l : Labels) (s : State) → Agrees l k h.others.now → InPlace k.registers.now h.place s → LeadsWithin l s h.place.left.now value

-- a lower bound of the values that can replace a choice: none has to if the choice reaches the label
abbrev pub bound_of : ℕ → ℕ → ℕ
bound_of label value = if nat_le value label then 0 else value
