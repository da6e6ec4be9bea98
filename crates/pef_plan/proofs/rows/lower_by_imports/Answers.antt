use Rattle.std.proofs.Common.{◌≡◌, ◌≢◌, ◌+◌, ◌<◌, ◌≤◌, ◌⊎◌, ◌∙◌, ℕ, inl, inr, ap, arith, length, refl, slice_index, subst, sym}
use Rattle.std.proofs.lemmas.List.{length-set}
use Rattle.pef_cert.specs.Labels.{Labels}
use Rattle.pef_cert.specs.LabelTests.{import_cost}
use Rattle.pef_plan.specs.declared.runs.run.Run.TheVariants.{Imports}
use Rattle.pef_plan.specs.declared.runs.state.OpenState.{OpenState}
use Rattle.pef_plan.specs.Kept.Rows.{Adds, DirectIs, state_of}
use Rattle.pef_plan.specs.Runs.Places.{Led}
use Rattle.pef_plan.specs.Runs.Runs.{EndOf, Ends}
use Rattle.pef_plan.specs.Runs.Tables.{Agrees, number_in, place_of}
use Rattle.pef_plan.proofs.DirectLemmas.{adds-lower, direct-import, here-of, lowered-set}
use Rattle.pef_plan.proofs.ImportLemmas.{LeastImports, imports-step}
use Rattle.pef_plan.proofs.RunTests.{imports_met}
use Rattle.pef_plan.proofs.RunsProofs.PlaceLemmas.{class_under, next_along, next_line, place_under, same_place}
use Rattle.pef_plan.proofs.rows.lower_by_imports.Goals.{then-d-classes, else-d-classes}
use Rattle.pef_plan.proofs.rows.lower_by_imports.Goals as goal

pub places-init : goal.places-init
places-init c = record {
  len = refl;
  place = omega arith;
  d = omega arith;
  lowered = λ x y under_x under_y. inr (λ low. absurd (omega (arith, low)), refl);
}

pub places-preserved : goal.places-preserved
places-preserved c =
    let a = c.args in
    let i = c.places.invariant in
    let r : ℕ = length a.known.registers.now + 1 in
    let row = c.places.row in
    let x = c.places.c in
    let y = c.places.d in
    let h : OpenState = state_of a.at x y in
    let len = i.len in
    let wide = c.requires.row in
    let place = i.place in
    let under_d = i.d in
    let test = c.places-test.true in
    let under_c : x < r = class_under r x y (omega (arith, place, test, len, wide)) in
    let count = c.classes-classes.ensures in
    let next : (c.places.place + 1 ≡ place_of r c.if-d-classes.c c.if-d-classes.d) × (c.if-d-classes.d < r) = elim c.if-d-classes.branch [
      | then-d-classes w ↦ next_line r c.places.place x y c.if-d-classes.c c.if-d-classes.d place under_d (w.if-d-classes.true ∙ count) w.c-is w.d-is
      | else-d-classes w ↦ next_along r c.places.place x y c.if-d-classes.c c.if-d-classes.d place under_d (λ end. w.if-d-classes.false (end ∙ sym count)) w.c-is w.d-is
    ] in
    let value : c.from.result ≡ number_in r row x y = c.from.ensures ∙ ap (slice_index row) place in
    let same : number_in r row x y ≡ number_in r a.row.now x y = elim (i.lowered x y under_c under_d) [
      | inl done ↦ (let low = done.0 in absurd (omega (arith, low, place)))
      | inr left ↦ left.1
    ] in
    let old : Adds a.known h (import_cost a.import) (number_in r row x y) = subst (λ (v : ℕ). Adds a.known h (import_cost a.import) v) (sym same) (c.requires.each x y under_c under_d) in
    let e = c.low_of_run.ensures in
    let better = e.better in
    let is = c.at_classes-here.ensures.is in
    let led : Led a.known h c.low_of_run.result = subst (λ (s : OpenState). Led a.known s c.low_of_run.result) is (e.led (subst (λ (s : OpenState). Led a.known s c.from.result) (sym is) (subst (λ (n : ℕ). Led a.known h n) (sym value) old.led))) in
    let ends = subst (λ (s : OpenState). (l : Labels) (n : ℕ) → Agrees l a.known s.others.now → n ≤ c.low_of_run.result → Ends l Imports s s.place.position n) is e.ends in
    let new : DirectIs a.known a.at x y c.low_of_run.result = direct-import a.known a.at a.import x y c.low_of_run.result c.requires.at c.requires.base
    (adds-lower a.known h (import_cost a.import) (number_in r row x y) c.low_of_run.result old led (omega (arith, better, value)))
    (λ l n agrees low same.
    imports_met l a.known h a.import n (here-of a.known a.at x y c.requires.at under_c under_d) refl c.requires.next (ends l n agrees low)) in
    let least : (l : Labels) → Agrees l a.known a.at.others.now → LeastImports l a.at x y (number_in r a.row.now x y) c.low_of_run.result = λ l agrees. record {
      low = omega (arith, better, value, same);
      one = elim (subst (λ (s : OpenState). (l : Labels) → Agrees l a.known s.others.now → (c.low_of_run.result ≡ c.from.result) ⊎ EndOf l Imports s s.place.position c.low_of_run.result) is e.attained l agrees) [ inl first ↦ inl (first ∙ (value ∙ same)) | inr end ↦ inr end ];
      ends = ends l c.low_of_run.result agrees (omega arith);
    } in
    record {
      len = length-set row c.places.place c.low_of_run.result ∙ len;
      place = next.0;
      d = next.1;
      lowered = lowered-set r (λ p q v. v ≡ number_in r a.row.now p q)
          (λ p q v. DirectIs a.known a.at p q v × ((l : Labels) → Agrees l a.known a.at.others.now → LeastImports l a.at p q (number_in r a.row.now p q) v))
          (λ p q. place_of r p q < c.places.place) (λ p q. place_of r p q < c.places.place + 1)
          row c.places.place x y c.low_of_run.result place (omega (arith, test, len)) under_d
          (λ p q done. omega (arith, done))
          (λ p q inside done apart. let other : place_of r p q ≢ c.places.place = λ same. apart (same_place r p q x y inside under_d (same ∙ place)) in omega (arith, done, other))
          (omega (arith, place)) (new, least) i.lowered;
    }

-- each number is lowered
done_at : (c : goal.After-places) (x y : ℕ) → x < length c.args.known.registers.now + 1 → y < length c.args.known.registers.now + 1
    → DirectIs c.args.known c.args.at x y (number_in (length c.args.known.registers.now + 1) c.places.row x y)
    × ((l : Labels) → Agrees l c.args.known c.args.at.others.now → LeastImports l c.args.at x y (number_in (length c.args.known.registers.now + 1) c.args.row.now x y) (number_in (length c.args.known.registers.now + 1) c.places.row x y))
done_at c x y under_x under_y =
    let i = c.places.invariant in
    let past = c.places-test.false in
    let len = i.len in
    let wide = c.requires.row in
    let low = place_under (length c.args.known.registers.now + 1) x y under_x under_y in
    elim (i.lowered x y under_x under_y) [
      | inl done ↦ done.1
      | inr left ↦ absurd (left.0 (omega (arith, low, past, len, wide)))
    ]

pub returns-clause-direct : goal.returns-clause-direct
returns-clause-direct c = λ x y under_x under_y. (done_at c x y under_x under_y).0

pub returns-clause-steps : goal.returns-clause-steps
returns-clause-steps c =
    let a = c.args in
    let r : ℕ = length a.known.registers.now + 1 in
    let s = c.requires.steps in
    record {
      c_line = λ x z y under_x under_z under_y.
          imports-step a.known a.at s.labels x y z y _ _ _ _ c.requires.at ((done_at c x y under_x under_y).1 s.labels s.agrees) ((done_at c z y under_z under_y).1 s.labels s.agrees) (c.requires.alone.c_line x z y under_x under_z under_y)
          (λ front left p parts. s.c_line front left p x z y parts under_x under_z under_y);
      d_line = λ x y z under_x under_y under_z.
          imports-step a.known a.at s.labels x y x z _ _ _ _ c.requires.at ((done_at c x y under_x under_y).1 s.labels s.agrees) ((done_at c x z under_x under_z).1 s.labels s.agrees) (c.requires.alone.d_line x y z under_x under_y under_z)
          (λ front left p parts. s.d_line front left p x y z parts under_x under_y under_z);
    }
