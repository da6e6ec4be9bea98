-- A change of one register changes the values of runs of imports by at most 1: these runs need no register, and the
-- extension after each end is that of a suffix of the fixups.
use Rattle.std.proofs.Common.{◌≡◌, ℕ, suc, ◌+◌, ◌*◌, ◌<◌, ◌≤◌, ◌⊎◌, inl, inr, List, [], ◌∷◌, ◌++◌, drop, length, slice_index, refl, ap, sym, ◌∙◌, subst, arith}
use Rattle.pef_reloc.specs.declared.fixup.Fixup.{Fixup}
use Rattle.pef_reloc.specs.declared.fixup.Base.TheVariants.{Import}
use Rattle.pef_reloc.specs.Deliveries.{index_past}
use Rattle.pef_reloc.specs.Steps.{added}
use Rattle.pef_cert.specs.Labels.{Labels}
use Rattle.pef_cert.specs.Extension.{extension}
use Rattle.pef_cert.proofs.Laws.{World, world-next}
use Rattle.pef_plan.specs.declared.runs.ends.RunEnds.{RunEnds}
use Rattle.pef_plan.specs.declared.runs.run.Run.TheVariants.{Imports}
use Rattle.pef_plan.specs.declared.runs.suffix.SolvedSuffix.{SolvedSuffix}
use Rattle.pef_plan.specs.declared.runs.state.FixupState.{FixupState}
use Rattle.pef_plan.specs.Kept.Near.{NearSteps, StepsFrom, StepsOf}
use Rattle.pef_plan.specs.Kept.Rows.{state_of}
use Rattle.pef_plan.specs.Runs.Ends.{EndsAt}
use Rattle.pef_plan.specs.Runs.Places.{AtOf}
use Rattle.pef_plan.specs.Runs.Runs.{EndOf, Ends, stride, units}
use Rattle.pef_plan.specs.Runs.Tables.{Agrees, place_of}
use Rattle.pef_plan.proofs.DirectLemmas.{near-is}
use Rattle.pef_plan.proofs.RunsProofs.PlaceLemmas.{place_under}
use Rattle.pef_plan.proofs.RunsProofs.RunFacts.{units-more}
use Rattle.pef_plan.proofs.SetLemmas.{extension-set_c, extension-set_d, steps-plus}

world_at : (l : Labels) (index : ℕ) (front left : List Fixup) → World l index (front ++ left) → (i : ℕ) × World l i left
world_at l index [] left w = (index, w)
world_at l index (f ∷ front) left w = world_at l (index_past f.base index) front left (world-next l index f (front ++ left) w)

-- at each suffix of the fixups
pub steps-from : (k : SolvedSuffix) (l : Labels) (index : ℕ) (fixups : List Fixup) → Agrees l k fixups → World l index fixups → StepsFrom k fixups
steps-from k l index fixups agrees world =
    let count = ap length agrees.same.registers_are in
    record {
      labels = l;
      agrees = agrees;
      c_line = λ front left p c e d parts under_c under_e under_d.
          let w = world_at l index front left (subst (λ (fs : List Fixup). World l index fs) parts world) in
          extension-set_c l w.0 left p c e d w.1 (omega (arith, count, under_c)) (omega (arith, count, under_e)) (omega (arith, count, under_d));
      d_line = λ front left p c d e parts under_c under_d under_e.
          let w = world_at l index front left (subst (λ (fs : List Fixup). World l index fs) parts world) in
          extension-set_d l w.0 left p c d e w.1 (omega (arith, count, under_c)) (omega (arith, count, under_d)) (omega (arith, count, under_e));
    }

pub near-steps : (k : SolvedSuffix) (a : FixupState) (e : RunEnds) → EndsAt k a.others.now (a.first ∷ a.others.now) e → StepsFrom k a.others.now → NearSteps k e
near-steps k a e ends s = record {
  c_line = λ c x d under_c under_x under_d.
      let low = s.c_line [] a.others.now (a.first.offset + 4) c x d refl under_c under_x under_d in
      let one = near-is k a e c d s.labels ends under_c under_d s.agrees in
      let two = near-is k a e x d s.labels ends under_x under_d s.agrees in
      omega (arith, low, one, two);
  d_line = λ c d x under_c under_d under_x.
      let low = s.d_line [] a.others.now (a.first.offset + 4) c d x refl under_c under_d under_x in
      let one = near-is k a e c d s.labels ends under_c under_d s.agrees in
      let two = near-is k a e c x s.labels ends under_c under_x s.agrees in
      omega (arith, low, one, two);
}

-- the values of one addition
pub alone-steps : (k : SolvedSuffix) (a : FixupState) (e : RunEnds) (cost : ℕ) (row : List ℕ) → EndsAt k a.others.now (a.first ∷ a.others.now) e → StepsFrom k a.others.now → ((i : ℕ) → i < (length k.registers.now + 1) * (length k.registers.now + 1) → slice_index row i ≡ cost + slice_index e.near.items i) → StepsOf (length k.registers.now + 1) row
alone-steps k a e cost row ends steps are =
    let r : ℕ = length k.registers.now + 1 in
    steps-plus r cost e.near.items row (near-steps k a e ends steps) (λ c d under_c under_d. are (place_of r c d) (place_under r c d under_c under_d))

-- the least of a first value and those of the runs of imports
pub record LeastImports (l : Labels) (a : FixupState) (c d first value : ℕ) : Type 0 where
  pub low : value ≤ first
  pub one : (value ≡ first) ⊎ EndOf l Imports (state_of a c d) a.first.offset value
  pub ends : Ends l Imports (state_of a c d) a.first.offset value

-- the fixups after a run are a suffix of those after the first
after_run : (k : SolvedSuffix) (a : FixupState) (more : ℕ) (left : List Fixup) → AtOf k a → a.left.now ≡ units Imports (suc more) a.first.offset a.import_index ++ left → a.others.now ≡ units Imports more (a.first.offset + 4) (a.import_index + 1) ++ left
after_run k a more left at parts =
    let whole : a.first ∷ a.others.now ≡ added a.first.offset (Import a.import_index) ∷ (units Imports more (a.first.offset + 4) (a.import_index + 1) ++ left) = sym at.parts ∙ (parts ∙ ap (λ fs. fs ++ left) (units-more Imports more a.first.offset a.import_index)) in
    ap (drop 1) whole

pub imports-step : (k : SolvedSuffix) (a : FixupState) (l : Labels) (c d c' d' first first' value value' : ℕ) → AtOf k a → LeastImports l a c d first value → LeastImports l a c' d' first' value' → first ≤ 1 + first'
    → ((front left : List Fixup) (p : ℕ) → a.others.now ≡ front ++ left → extension l left p c d ≤ 1 + extension l left p c' d') → value ≤ 1 + value'
imports-step k a l c d c' d' first first' value value' at mine other firsts step =
    let low = mine.low in
    elim other.one [
      | inl is ↦ omega (arith, low, is, firsts)
      | inr end ↦ by_end end
    ]
  where
    by_end : EndOf l Imports (state_of a c' d') a.first.offset value' → value ≤ 1 + value'
    by_end end =
        let least = mine.ends end.more end.left end.under end.parts in
        let next = step (units Imports end.more (a.first.offset + 4) (a.import_index + 1)) end.left (a.first.offset + stride Imports * suc end.more) (after_run k a end.more end.left at end.parts) in
        let is = end.is in
        omega (arith, least, next, is)
