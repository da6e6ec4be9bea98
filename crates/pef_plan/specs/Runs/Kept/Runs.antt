-- Runs, followed unit by unit.
use Rattle.std.specs.Prelude.{◌≡◌, ◌≤◌, ◌<◌, ◌⊎◌, ℕ, suc, ◌+◌, ◌-◌, ◌*◌, List, ◌++◌}
use Rattle.pef_reloc.specs.declared.fixup.Fixup.{Fixup}
use Rattle.pef_cert.specs.Labels.{Labels}
use Rattle.pef_plan.specs.declared.runs.suffix.SolvedSuffix.{SolvedSuffix}
use Rattle.pef_plan.specs.declared.runs.state.PlanState.{PlanState}
use Rattle.pef_plan.specs.declared.runs.state.OpenState.{OpenState}
use Rattle.pef_plan.specs.declared.runs.state.Choice.{Choice}
use Rattle.pef_plan.specs.declared.runs.state.Sought.{Sought}
use Rattle.pef_plan.specs.declared.runs.run.Run.{Run}
use Rattle.pef_plan.specs.Runs.Places.{Chosen}
use Rattle.pef_plan.specs.Runs.Tables.{Agrees}
use Rattle.pef_plan.specs.Runs.Runs.{EndOf, Ends, EndsFrom, imports, limit, run_instr, stride, unit, units}

-- q is the place after one unit from p
pub record Next (r : Run) (p q : PlanState) : Type 0 where
  pub left : p.left.now ≡ unit r p.position p.import_index ++ q.left.now
  pub position : q.position ≡ p.position + stride r
  pub import_index : q.import_index ≡ p.import_index + imports r
  pub c : q.c ≡ p.c
  pub d : q.d ≡ p.d

-- the place after n units
pub record Along (r : Run) (start : PlanState) (from n : ℕ) (p : PlanState) : Type 0 where
  pub position : p.position ≡ from + stride r * n
  pub import_index : p.import_index ≡ start.import_index + imports r * n
  pub c : p.c ≡ start.c
  pub d : p.d ≡ start.d
  pub behind : (j : ℕ) (left : List Fixup) → p.left.now ≡ units r j p.position p.import_index ++ left → start.left.now ≡ units r (n + j) from start.import_index ++ left

-- a choice is an end of a run that is better than a first choice. All ends before it are at least a bar, which is above
-- the end and the label
pub record EndFound (k : SolvedSuffix) (h : OpenState) (r : Run) (from : ℕ) (first : Sought) (x : Choice) : Type 0 where
  pub more : ℕ
  pub under : more < limit r
  pub instr : x.step.instr ≡ run_instr r (suc more)
  pub bar : ℕ
  pub low : x.value < bar
  pub label_low : first.label < bar
  pub high : bar ≤ first.choice.value
  pub before : (l : Labels) → Agrees l k h.others.now → EndsFrom l r bar more h.place.left.now from h.place.import_index h.place.c h.place.d

-- the first choice, or such an end
abbrev pub FirstEnd : SolvedSuffix → OpenState → Run → ℕ → Sought → Choice → Type 0
FirstEnd k h r from first x = (x ≡ first.choice) ⊎ EndFound k h r from first x

-- the best of a first choice and the ends of up to n units
pub record SoFar (k : SolvedSuffix) (h : OpenState) (r : Run) (from n : ℕ) (p : PlanState) (first : Sought) (best : Choice) : Type 0 where
  pub along : Along r h.place from n p
  pub within : n ≤ limit r
  pub chosen : Chosen k h best
  pub better : best.value ≤ first.choice.value
  pub found : FirstEnd k h r from first best
  pub passed : (l : Labels) → Agrees l k h.others.now → EndsFrom l r best.value n h.place.left.now from h.place.import_index h.place.c h.place.d
  pub attained : (l : Labels) → Agrees l k h.others.now → (best.value ≡ first.choice.value) ⊎ EndOf l r h from best.value
  pub ends : (l : Labels) (value : ℕ) → value ≤ best.value → Agrees l k h.others.now → EndsFrom l r value (limit r - n) p.left.now p.position p.import_index p.c p.d → Ends l r h from value
