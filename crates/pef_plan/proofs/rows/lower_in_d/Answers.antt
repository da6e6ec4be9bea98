use Rattle.std.proofs.Common.{◌+◌, ℕ, inl, inr, arith, length, slice_index, subst, sym}
use Rattle.std.proofs.lemmas.Bool.Decides.{eqb_tells}
use Rattle.pef_plan.specs.Kept.Rows.{AddsInBoth, AddsInC, state_of}
use Rattle.pef_plan.specs.Runs.Tables.{number_in}
use Rattle.pef_plan.specs.Windows.Windows.{BestsOfTwo}
use Rattle.pef_plan.proofs.DirectLemmas.{in_d-away}
use Rattle.pef_plan.proofs.LoweredLines.{adds-in_d, bests-better, class_inside}
use Rattle.pef_plan.proofs.rows.lower_in_d.Goals as goal

pub put_column-requires-clause-less : goal.put_column-requires-clause-less
put_column-requires-clause-less c = λ x under.
    let a = c.args in
    let words = c.requires.ends.words in
    let wide = c.copy_column.ensures.len in
    bests-better a.ends.now.words.in_d a.ends.now.words.spaced x _ _ words.in_d.rows words.spaced.rows _ _ _ _ words.in_d.is words.spaced.is
    (subst (λ n. BestsOfTwo a.ends.now.words.in_d a.ends.now.words.spaced x n (slice_index c.lower_in_d.new.column x)) (c.copy_column.ensures.is x under) (c.lower_in_d.ensures.best x (omega (arith, under, wide))))

pub returns-clause-each : goal.returns-clause-each
returns-clause-each c = λ x d under_x under_d.
    let a = c.args in
    let r = c.requires in
    let rows : ℕ = length a.known.registers.now + 1 in
    let inside = class_inside a.known a.at a.of.section a.of.class r.at r.base r.class in
    let wide = c.copy_column.ensures.len in
    elim (eqb_tells d a.of.class) [
      | inl same ↦
          (let two = subst (λ n. BestsOfTwo a.ends.now.words.in_d a.ends.now.words.spaced x n (slice_index c.lower_in_d.new.column x)) (c.copy_column.ensures.is x under_x) (c.lower_in_d.ensures.best x (omega (arith, under_x, wide))) in
          let new : AddsInBoth a.known (state_of a.at x a.of.class) a.of.section (slice_index c.lower_in_d.new.column x) =
          adds-in_d a.known a.at a.of.section a.of.class x _ _ a.ends.now r.at r.base r.class under_x r.ends (r.each x a.of.class under_x (omega (arith, inside))) two in
          subst (λ y. AddsInBoth a.known (state_of a.at x y) a.of.section (number_in rows c.put_column.new.row x y)) (sym same.1)
          (subst (λ n. AddsInBoth a.known (state_of a.at x a.of.class) a.of.section n) (sym (c.put_column.ensures.are x under_x)) new))
      | inr other ↦ in_d-away a.known (state_of a.at x d) a.of.section a.of.class (number_in rows c.put_column.new.row x d) r.class other.1
          (subst (λ n. AddsInC a.known (state_of a.at x d) a.of.section n) (sym (c.put_column.ensures.lowers.others x d under_x under_d other.1)) (r.each x d under_x under_d))
    ]
