use Rattle.std.proofs.Common.{◌≡◌, ◌≢◌, ◌+◌, ◌<◌, ◌≤◌, ◌∙◌, ℕ, inl, inr, ap, arith, length, sym, refl, slice_index}
use Rattle.std.specs.Prelude.{slice_set}
use Rattle.std.proofs.lemmas.Bool.Decides.{eqb_tells}
use Rattle.std.proofs.lemmas.List.{length-set}
use Rattle.pef_plan.specs.Runs.Tables.{number_in}
use Rattle.pef_plan.proofs.CrossLemmas.{lowers-none, lowers-set}
use Rattle.pef_plan.proofs.LoweredLines.{set_elsewhere, set_there}
use Rattle.pef_plan.proofs.rows.put_column.Goals as goal

pub classes-init : goal.classes-init
classes-init c =
    let a = c.args in
    record {
      small = omega arith;
      len = refl;
      lowers = lowers-none (length a.known.registers.now + 1) (λ x y. y ≡ a.class) a.row.now;
      done = λ y low. absurd (omega (arith, low));
      left = λ y from under. refl;
    }

pub classes-preserved : goal.classes-preserved
classes-preserved c =
    let a = c.args in
    let i = c.classes.invariant in
    let r : ℕ = length a.known.registers.now + 1 in
    let row = c.classes.row in
    let v = c.classes.c in
    let place = c.place-place.result in
    let is = c.place-place.ensures.is in
    let x : ℕ = slice_index a.column.now v in
    let test = c.classes-test.true in
    let wide = c.requires.column in
    let under : v < r = omega (arith, test, wide) in
    let bound = c.place-place.ensures.inside in
    let len = i.len in
    let square = c.requires.row in
    let inside : place < length row = omega (arith, bound, len, square) in
    let there : slice_index row place ≡ number_in r a.row.now v a.class = ap (slice_index row) is ∙ i.left v (omega arith) under in
    let most = c.requires.less v under in
    let less : x ≤ slice_index row place = omega (arith, most, there) in
    let from = c.from-saved.ensures in
    record {
      small = (let before = i.small in let few = c.requires.small v under in omega (arith, before, few, there, from));
      len = length-set row place x ∙ len;
      lowers = lowers-set r (λ x y. y ≡ a.class) a.row.now row c.classes.saved _ place v a.class x is inside c.requires.class refl less (ap (λ n. c.classes.saved + n) from) i.lowers;
      done = λ y low.
          let under_y : y < r = omega (arith, low, under) in
          elim (eqb_tells y v) [
            | inl same ↦ ap (λ n. number_in r (slice_set row place x) n a.class) same.1 ∙ (set_there r row place v a.class x is inside ∙ ap (slice_index a.column.now) (sym same.1))
            | inr other ↦ set_elsewhere r row place v a.class y a.class x is c.requires.class c.requires.class (λ same. other.1 same.0) ∙ i.done y (let away : y ≢ v = other.1 in omega (arith, low, away))
          ];
      left = λ y from under_y. set_elsewhere r row place v a.class y a.class x is c.requires.class c.requires.class (λ same. let at = same.0 in absurd (omega (arith, at, from))) ∙ i.left y (omega (arith, from)) under_y;
    }
