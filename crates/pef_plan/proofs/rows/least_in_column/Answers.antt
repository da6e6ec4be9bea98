use Rattle.std.proofs.Common.{◌≡◌, ◌+◌, ◌*◌, ℕ, ap, arith, refl, slice_index, subst, sym}
use Rattle.pef_plan.specs.Kept.Rows.{LeastOf}
use Rattle.pef_plan.specs.Runs.Tables.{number_in}
use Rattle.pef_plan.proofs.LineLemmas.{least-more, least-one}
use Rattle.pef_plan.proofs.rows.least_in_column.Goals as goal

pub classes-init : goal.classes-init
classes-init c =
    let a = c.args in
    let first : 0 * a.classes + a.class ≡ a.class = omega arith in
    least-one (λ (x : ℕ). number_in a.classes a.row.now x a.class) (slice_index a.row.now a.class) (ap (slice_index a.row.now) first)

pub classes-preserved : goal.classes-preserved
classes-preserved c =
    let a = c.args in
    let f = λ (x : ℕ). number_in a.classes a.row.now x a.class in
    subst (λ (v : ℕ). LeastOf (c.classes.c + 1) f v) (sym c.min-low.ensures) (least-more c.classes.c f c.classes.low (f c.classes.c) c.classes.invariant refl)
