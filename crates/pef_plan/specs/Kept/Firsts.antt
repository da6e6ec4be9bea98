-- The first instructions that reach a value, among those that are tried in order.
use Rattle.std.specs.Prelude.{◌≡◌, ◌≤◌, ◌<◌, ℕ, ◌+◌, ◌-◌, ◌==◌, Bool, true, false, List, [], ◌∷◌, ◌++◌}
use Rattle.pef_reloc.specs.declared.fixup.Base.{Base}
use Rattle.pef_reloc.specs.declared.fixup.Base.TheVariants.{Section, Import}
use Rattle.pef_reloc.specs.declared.fixup.Fixup.{Fixup}
use Rattle.pef_reloc.specs.declared.instr.Instr.{Instr}
use Rattle.pef_reloc.specs.declared.instr.Instr.TheVariants.{BySectDWithSkip, IncrPosition, SetPosition}
use Rattle.pef_reloc.specs.Deliveries.{Delivers, is_flat_instr}
use Rattle.pef_reloc.specs.Instrs.{instr_length}
use Rattle.pef_reloc.specs.Steps.{State, next_state}
use Rattle.pef_cert.specs.Labels.{Labels, class_of}
use Rattle.pef_cert.specs.Extension.{extension_at}
use Rattle.pef_plan.specs.declared.runs.suffix.SolvedSuffix.{SolvedSuffix}
use Rattle.pef_plan.specs.declared.runs.state.PlanState.{PlanState}
use Rattle.pef_plan.specs.declared.runs.state.OpenState.{OpenState}
use Rattle.pef_plan.specs.declared.runs.state.Step.{Step}
use Rattle.pef_plan.specs.declared.runs.state.Choice.{Choice}
use Rattle.pef_plan.specs.declared.runs.run.Run.{Run}
use Rattle.pef_plan.specs.declared.runs.run.Run.TheVariants.{WordsOfC, WordsOfD, Spaced, Pairs, SpacedPairs}
use Rattle.pef_plan.specs.Kept.Steps.{labels_tabled}
use Rattle.pef_plan.specs.Planned.{FirstOf, counted, steps_in_order}
use Rattle.pef_plan.specs.Runs.Places.{InPlace, extension_in}
use Rattle.pef_plan.specs.Runs.Runs.{limit, run_instr}
use Rattle.pef_plan.specs.Runs.Tables.{Agrees}

-- an instruction leads on from a state within n halfwords
pub record LeadsBy (l : Labels) (s : State) (fixups : List Fixup) (n : ℕ) (instr : Instr) : Type 0 where
  pub left : List Fixup
  pub flat : is_flat_instr instr ≡ true
  pub delivers : Delivers instr s fixups left
  pub falls : instr_length instr + extension_at l left (next_state instr s) ≤ n

-- no instruction of a list has a property
abbrev pub NoneOf : (Instr → Type 0) → List Instr → Type 0
NoneOf P [] = Unit {0}
NoneOf P (x ∷ xs) = (P x → ⊥) × NoneOf P xs

-- a choice is the first of a list that reaches a label, or none of the list reaches it
pub record Sifted (P : Instr → Type 0) (tried : List Instr) (label : ℕ) (x : Choice) : Type 0 where
  pub found : x.value ≤ label → FirstOf P tried x.step.instr
  pub none : label < x.value → NoneOf P tried

-- the same from each state at a place
abbrev pub SiftedOf : SolvedSuffix → OpenState → ℕ → List Instr → Choice → Type 0
SiftedOf k h label tried x = (l : Labels) (s : State) → Agrees l k h.others.now → InPlace k.registers.now h.place s → Sifted (LeadsBy l s h.place.left.now label) tried label x

-- the instructions of a run, in order
abbrev pub run_list : Run → List Instr
run_list r = counted (run_instr r) 1 (limit r)

-- the instructions tried if a register holds a section
abbrev pub if_held : Bool → List Instr → List Instr → List Instr
if_held true tried before = tried
if_held false tried before = before

-- the instructions tried before, and then the pairs of a section in register C and the next one in D
abbrev pub with_pairs : List ℕ → ℕ → ℕ → Base → List Instr → List Instr
with_pairs registers d j (Section k) before = if_held (class_of registers k == d) (before ++ run_list (Pairs j k) ++ run_list (SpacedPairs j k)) before
with_pairs registers d j (Import k) before = before

abbrev pub with_second : List ℕ → ℕ → ℕ → List Fixup → List Instr → List Instr
with_second registers d j [] before = before
with_second registers d j (g ∷ rest) before = with_pairs registers d j g.base before

-- all runs of a section in register C, and of one in register D
abbrev pub with_c : SolvedSuffix → OpenState → ℕ → ℕ → List Instr → List Instr
with_c k h section class before = if_held (class == h.place.c) (with_second k.registers.now h.place.d section h.others.now (before ++ run_list (WordsOfC section))) before

abbrev pub with_d : SolvedSuffix → OpenState → ℕ → ℕ → List Instr → List Instr
with_d k h section class before = if_held (class == h.place.d) (before ++ run_list (WordsOfD section) ++ run_list (Spaced section)) before

-- a choice is the first of the skips over some words that has its value
abbrev pub FirstSkip : SolvedSuffix → OpenState → ℕ → Choice → Type 0
FirstSkip k h words x = (l : Labels) (s : State) → Agrees l k h.others.now → InPlace k.registers.now h.place s → FirstOf (LeadsBy l s h.place.left.now x.value) (counted (BySectDWithSkip words) 1 63) x.step.instr

-- a step has the first instruction that a shortest list begins with
abbrev pub Picks : SolvedSuffix → PlanState → Step → Type 0
Picks k p x = (s : State) → InPlace k.registers.now p s → FirstOf (LeadsBy (labels_tabled k) s p.left.now (extension_in (labels_tabled k) p)) (steps_in_order k.registers.now s.position p.left.now) x.instr

-- no shortest list begins with a move to the offset of the next fixup
abbrev pub NoMove : SolvedSuffix → OpenState → Type 0
NoMove k h = (s : State) → InPlace k.registers.now h.place s → NoneOf (LeadsBy (labels_tabled k) s h.place.left.now (extension_in (labels_tabled k) h.place)) (SetPosition h.first.offset ∷ IncrPosition (h.first.offset - h.place.position) ∷ [])
