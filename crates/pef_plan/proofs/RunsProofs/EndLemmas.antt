-- The ends of runs in windows: they are kept from fixup to fixup, and give the best value of a run.
use Rattle.std.proofs.Common.{◌≡◌, ℕ, zero, suc, ◌+◌, ◌-◌, ◌*◌, ◌<◌, ◌≤◌, inl, inr, Bool, true, false, List, [], ◌∷◌, ◌++◌, Option, None, Some, take, slice_index, refl, ap, ap₂, sym, ◌∙◌, subst, arith}
use Rattle.std.proofs.lemmas.List.{append_assoc, append_cancel_left}
use Rattle.std.proofs.Math.Nat.{mul-add}
use Rattle.pef_reloc.specs.declared.fixup.Fixup.{Fixup}
use Rattle.pef_reloc.specs.Steps.{State, next_state}
use Rattle.pef_cert.specs.Labels.{Labels, class_of}
use Rattle.pef_cert.specs.Extension.{extension, extension_at}
use Rattle.pef_plan.specs.declared.runs.suffix.SolvedSuffix.{SolvedSuffix}
use Rattle.pef_plan.specs.declared.runs.state.PlanState.{PlanState}
use Rattle.pef_plan.specs.declared.runs.state.OpenState.{OpenState}
use Rattle.pef_plan.specs.declared.runs.run.Run.{Run}
use Rattle.pef_plan.specs.declared.runs.run.Run.TheVariants.{WordsOfC, WordsOfD, Spaced, Pairs, SpacedPairs, Skip}
use Rattle.pef_plan.specs.Runs.Ends.{Begins, Brought, BroughtMaybe, EndRows, GoesOnMaybe}
use Rattle.pef_plan.specs.Runs.Runs.{EndAmong, EndsFrom, RunOf, imports, limit, run_instr, stride, unit, units}
use Rattle.pef_plan.specs.Runs.Leads.{LeadsWithin}
use Rattle.pef_plan.specs.Runs.Places.{InPlace, Led}
use Rattle.pef_plan.specs.Runs.Tables.{Agrees}
use Rattle.pef_plan.specs.Windows.Windows.{AtMostEach, BestOf, IsOne, WindowOf, Windowed, rows_brought, rows_moved}
use Rattle.pef_plan.proofs.RunsProofs.RunFacts.{no_ends, run-adds, run-flat, run-next, run-one, units-more, units-none, units_c, units_d, units_far, units_pairs, units_skip, units_spaced}

-- the same with fewer ends
end_rows-take : (l : Labels) (r : Run) (n k : ℕ) (fixups : List Fixup) (p m c d i : ℕ) (rows : List (List ℕ)) → EndRows l r n fixups p m c d i rows → k ≤ n → EndRows l r k fixups p m c d i (take k rows)
end_rows-take l r n zero fixups p m c d i rows e few = inl refl
end_rows-take l r n (suc k) fixups p m c d i [] (inl none) few = absurd (omega (arith, none, few))
end_rows-take l r n (suc k) fixups p m c d i [] (inr none) few = inr none
end_rows-take l r n (suc k) fixups p m c d i (q ∷ qs) e few =
    (k, e.1, refl, e.3, e.4, end_rows-take l r e.0 k e.1 (p + stride r) (m + imports r) c d i qs e.5 (let count = e.2 in omega (arith, count, few)))

-- one more end
pub end_rows-more : (l : Labels) (r : Run) (n : ℕ) (fixups rest : List Fixup) (p m c d i : ℕ) (row : List ℕ) (rows : List (List ℕ)) → 0 < n → fixups ≡ unit r p m ++ rest → slice_index row i ≡ extension l rest (p + stride r) c d → EndRows l r n rest (p + stride r) (m + imports r) c d i rows → EndRows l r n fixups p m c d i (row ∷ take (n - 1) rows)
end_rows-more l r n fixups rest p m c d i row rows some parts is e =
    (n - 1, rest, omega (arith, some), parts, is, end_rows-take l r n (n - 1) rest (p + stride r) (m + imports r) c d i rows e (omega arith))

-- the first end, and later ones
ends-first : (l : Labels) (r : Run) (value n : ℕ) (fixups rest : List Fixup) (p m c d : ℕ) → fixups ≡ unit r p m ++ rest → value ≤ 1 + extension l rest (p + stride r) c d → EndsFrom l r value n rest (p + stride r) (m + imports r) c d → EndsFrom l r value (suc n) fixups p m c d
ends-first l r value n fixups rest p m c d parts low ends zero left under is =
    let u : List Fixup = unit r p m in
    let whole : u ++ rest ≡ u ++ left = sym parts ∙ (is ∙ (ap (λ fs. fs ++ left) (units-more r 0 p m) ∙ (append_assoc u (units r 0 (p + stride r) (m + imports r)) left ∙ ap (λ fs. u ++ (fs ++ left)) (units-none r (p + stride r) (m + imports r))))) in
    let same : rest ≡ left = append_cancel_left u rest left whole in
    let end : p + stride r ≡ p + stride r * 1 = omega arith in
    let value_same = ap (λ fs. extension l fs (p + stride r) c d) same ∙ ap (λ x. extension l left x c d) end in
    omega (arith, low, value_same)
ends-first l r value n fixups rest p m c d parts low ends (suc j) left under is =
    let u : List Fixup = unit r p m in
    let more : List Fixup = units r (suc j) (p + stride r) (m + imports r) in
    let whole : u ++ rest ≡ u ++ (more ++ left) = sym parts ∙ (is ∙ (ap (λ fs. fs ++ left) (units-more r (suc j) p m) ∙ append_assoc u more left)) in
    let same : rest ≡ more ++ left = append_cancel_left u rest (more ++ left) whole in
    let e = ends j left (omega (arith, under)) same in
    let sum = mul-add (stride r) (suc j) 1 in
    let one : suc j + 1 ≡ suc (suc j) = omega arith in
    let wide = ap (λ n. stride r * n) one in
    let end : p + stride r + stride r * suc j ≡ p + stride r * suc (suc j) = omega (arith, sum, wide) in
    let value_same = ap (λ x. extension l left x c d) end in
    omega (arith, e, value_same)

-- a value that is at most 1 more than each
pub best_ends : (l : Labels) (r : Run) (value n : ℕ) (fixups : List Fixup) (p m c d i : ℕ) (rows : List (List ℕ)) → EndRows l r n fixups p m c d i rows → AtMostEach 1 value rows i → EndsFrom l r value n fixups p m c d
best_ends l r value n fixups p m c d i [] (inl none) low = λ j left under is. absurd (omega (arith, under, none))
best_ends l r value n fixups p m c d i [] (inr none) low = no_ends l r value n p m c d fixups none
best_ends l r value n fixups p m c d i (q ∷ qs) e low =
    subst (λ (k : ℕ). EndsFrom l r value k fixups p m c d) (sym e.2)
    (ends-first l r value e.0 fixups e.1 p m c d e.3 (let first = low.0 in let is = e.4 in omega (arith, first, is))
    (best_ends l r value e.0 e.1 (p + stride r) (m + imports r) c d i qs e.5 low.1))

-- a value that is 1 more than one of them
pub best_end : (l : Labels) (r : Run) (value n : ℕ) (fixups : List Fixup) (p m c d i : ℕ) (rows : List (List ℕ)) → EndRows l r n fixups p m c d i rows → IsOne 1 value rows i → EndAmong l r n fixups p m c d value
best_end l r value n fixups p m c d i [] e none = absurd none
best_end l r value n fixups p m c d i (q ∷ qs) e (inl is) =
    let u : List Fixup = unit r p m in
    let end : p + stride r ≡ p + stride r * 1 = omega arith in
    record {
      more = 0;
      left = e.1;
      under = (let count = e.2 in omega (arith, count));
      parts = e.3 ∙ sym (ap (λ fs. fs ++ e.1) (units-more r 0 p m) ∙ (append_assoc u (units r 0 (p + stride r) (m + imports r)) e.1 ∙ ap (λ fs. u ++ (fs ++ e.1)) (units-none r (p + stride r) (m + imports r))));
      is = is ∙ ap (λ n. 1 + n) (e.4 ∙ ap (λ x. extension l e.1 x c d) end);
    }
best_end l r value n fixups p m c d i (q ∷ qs) e (inr o) =
    let u : List Fixup = unit r p m in
    let a = best_end l r value e.0 e.1 (p + stride r) (m + imports r) c d i qs e.5 o in
    let more : List Fixup = units r (suc a.more) (p + stride r) (m + imports r) in
    let sum = mul-add (stride r) (suc a.more) 1 in
    let one : suc a.more + 1 ≡ suc (suc a.more) = omega arith in
    let wide = ap (λ n. stride r * n) one in
    let end : p + stride r + stride r * suc a.more ≡ p + stride r * suc (suc a.more) = omega (arith, sum, wide) in
    record {
      more = suc a.more;
      left = a.left;
      under = (let count = e.2 in let low = a.under in omega (arith, count, low));
      parts = e.3 ∙ (ap (λ fs. u ++ fs) a.parts ∙ (sym (append_assoc u more a.left) ∙ ap (λ fs. fs ++ a.left) (sym (units-more r (suc a.more) p m))));
      is = a.is ∙ ap (λ x. 1 + extension l a.left x c d) end;
    }

-- an end of a run is one of another that adds the same
pub end_as : (l : Labels) (r t : Run) (n : ℕ) (fixups : List Fixup) (p m k c d value : ℕ) → ((j : ℕ) → units r j p m ≡ units t j p k) → stride r ≡ stride t → EndAmong l r n fixups p m c d value → EndAmong l t n fixups p k c d value
end_as l r t n fixups p m k c d value same wide e = record {
  more = e.more;
  left = e.left;
  under = e.under;
  parts = e.parts ∙ ap (λ fs. fs ++ e.left) (same (suc e.more));
  is = e.is ∙ ap (λ w. 1 + extension l e.left (p + w * suc e.more) c d) wide;
}

pub ends_as : (l : Labels) (r t : Run) (value n : ℕ) (fixups : List Fixup) (p m k c d : ℕ) → ((j : ℕ) → units r j p m ≡ units t j p k) → stride r ≡ stride t → EndsFrom l r value n fixups p m c d → EndsFrom l t value n fixups p k c d
ends_as l r t value n fixups p m k c d same wide ends j left under is =
    let e = ends j left under (is ∙ ap (λ fs. fs ++ left) (sym (same (suc j)))) in
    let there = ap (λ w. extension l left (p + w * suc j) c d) wide in
    omega (arith, e, there)

pub as_c : (k p m : ℕ) (j : ℕ) → units (WordsOfD k) j p 0 ≡ units (WordsOfC k) j p m
as_c k p m j = sym (units_d j p 0 k) ∙ units_c j p m k

pub as_d : (k p m : ℕ) (j : ℕ) → units (WordsOfD k) j p 0 ≡ units (WordsOfD k) j p m
as_d k p m j = sym (units_d j p 0 k) ∙ units_d j p m k

pub as_skip : (w k p m : ℕ) (j : ℕ) → units (WordsOfD k) j p 0 ≡ units (Skip w k) j p m
as_skip w k p m j = sym (units_d j p 0 k) ∙ units_skip j p m w k

pub as_spaced : (k p m : ℕ) (j : ℕ) → units (Spaced k) j p 0 ≡ units (Spaced k) j p m
as_spaced k p m j = sym (units_spaced j p 0 k) ∙ units_spaced j p m k

pub as_pairs : (i k p m : ℕ) (j : ℕ) → units (Pairs i k) j p 0 ≡ units (Pairs i k) j p m
as_pairs i k p m j = sym (units_pairs j p 0 i k) ∙ units_pairs j p m i k

pub as_far : (i k p m : ℕ) (j : ℕ) → units (SpacedPairs i k) j p 0 ≡ units (SpacedPairs i k) j p m
as_far i k p m j = sym (units_far j p 0 i k) ∙ units_far j p m i k

-- the instruction of a run leads to one of its ends
pub end_led : (k : SolvedSuffix) (h : OpenState) (r : Run) (value : ℕ) (l : Labels) (s : State) → RunOf k.registers.now r h.place h.place.position → l.registers ≡ k.registers.now → InPlace k.registers.now h.place s → EndAmong l r (limit r) h.place.left.now h.place.position h.place.import_index h.place.c h.place.d value → LeadsWithin l s h.place.left.now value
end_led k h r value l s of same at e =
    let n : ℕ = suc e.more in
    let q : PlanState = record h.place { position = h.place.position + stride r * n; import_index = h.place.import_index + imports r * n } in
    let next = run-next k.registers.now r h.place q h.place.position n s of at refl refl refl refl in
    let x = run_instr r n in
    let under = e.under in
    let worth = e.is in
    let there : extension_at l e.left (next_state x s) ≡ extension l e.left (h.place.position + stride r * n) h.place.c h.place.d =
    ap (λ p. extension l e.left p (class_of l.registers (next_state x s).c) (class_of l.registers (next_state x s).d)) next.position
    ∙ ap₂ (λ a b. extension l e.left (h.place.position + stride r * n) a b) (ap (λ rs. class_of rs (next_state x s).c) same ∙ next.c) (ap (λ rs. class_of rs (next_state x s).d) same ∙ next.d) in
    let one = run-one r n in
    record {
      instr = x;
      left = e.left;
      flat = run-flat k.registers.now r h.place h.place.position n of (omega arith) (omega (arith, under));
      delivers = record { is = e.parts ∙ ap (λ fs. fs ++ e.left) (sym (run-adds k.registers.now r h.place h.place.position n s of at)) };
      falls = omega (arith, there, one, worth);
    }

-- the better of a value and the ends of a run
pub best-led : (k : SolvedSuffix) (h : OpenState) (r : Run) (first value i : ℕ) (rows : List (List ℕ)) → RunOf k.registers.now r h.place h.place.position → Led k h first → BestOf first rows i value → ((l : Labels) → Agrees l k h.others.now → IsOne 1 value rows i → EndAmong l r (limit r) h.place.left.now h.place.position h.place.import_index h.place.c h.place.d value) → Led k h value
best-led k h r first value i rows of led best ends l s agrees at =
    elim best.one [
      | inl same ↦ subst (λ (v : ℕ). LeadsWithin l s h.place.left.now v) (sym same) (led l s agrees at)
      | inr one ↦ end_led k h r value l s of agrees.same.registers_are at (ends l agrees one)
    ]

no_rows : (n : ℕ) (rows : List (List ℕ)) → rows ≡ [] → take n rows ≡ rows
no_rows zero [] none = refl
no_rows (suc n) [] none = refl
no_rows n (row ∷ rows) none = absurd (cc)

-- a window that was moved to a place without a run, and to a run
brought-gone : (r : Run) (count limit : ℕ) (fixups : List Fixup) (p m : ℕ) (rows : List (List ℕ)) (row : List ℕ) (w : Windowed) → WindowOf count limit [] w → ((left : List Fixup) → fixups ≡ unit r p m ++ left → ⊥) → Brought r count limit fixups p m rows row w
brought-gone r count limit fixups p m rows row w is none = record { now = []; is = is; ends = λ l c d i on behind. inr none }

pub brought : (r : Run) (count limit : ℕ) (fixups rest : List Fixup) (p m : ℕ) (on : Bool) (rows : List (List ℕ)) (row : List ℕ) (w : Windowed) → fixups ≡ unit r p m ++ rest → Begins r (p + stride r) (m + imports r) rest on → WindowOf count limit (rows_brought on limit rows row) w → Brought r count limit fixups p m rows row w
brought r count limit fixups rest p m true rows row w parts on is = record {
  now = row ∷ take (limit - 1) rows;
  is = is;
  ends = λ l c d i goes behind.
      end_rows-more l r limit fixups rest p m c d i row rows is.some parts (behind rest parts) (goes rest on.0 parts on.1);
}
brought r count limit fixups rest p m false rows row w parts none is = record {
  now = row ∷ [];
  is = is;
  ends = λ l c d i goes behind.
      subst (λ (xs : List (List ℕ)). EndRows l r limit fixups p m c d i (row ∷ xs)) (no_rows (limit - 1) [] refl)
      (end_rows-more l r limit fixups rest p m c d i row [] is.some parts (behind rest parts) (inr none));
}

pub brought-maybe : (r : Option Run) (count limit : ℕ) (fixups : List Fixup) (p m : ℕ) (on : Option Bool) (rows : List (List ℕ)) (row : List ℕ) (w : Windowed) → GoesOnMaybe r fixups p m on → WindowOf count limit (rows_moved on limit rows row) w → BroughtMaybe r count limit fixups p m rows row w
brought-maybe None count limit fixups p m on rows row w goes is = (rows_moved on limit rows row, is)
brought-maybe (Some r) count limit fixups p m None rows row w none is = brought-gone r count limit fixups p m rows row w is none
brought-maybe (Some r) count limit fixups p m (Some on) rows row w goes is = brought r count limit fixups goes.0 p m on rows row w goes.1 goes.2 is
