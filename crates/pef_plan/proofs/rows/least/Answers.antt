use Rattle.std.proofs.Common.{ℕ, ◌+◌, refl, slice_index, subst, sym}
use Rattle.pef_plan.specs.Kept.Rows.{LeastOf}
use Rattle.pef_plan.proofs.LineLemmas.{least-more}
use Rattle.pef_plan.proofs.rows.least.Goals as goal

pub numbers-preserved : goal.numbers-preserved
numbers-preserved c =
    let f = λ (d : ℕ). slice_index c.args.numbers.now (c.args.from + d) in
    subst (λ (v : ℕ). LeastOf (c.numbers.d + 1) f v) (sym c.min-low.ensures) (least-more c.numbers.d f c.numbers.low (f c.numbers.d) c.numbers.invariant refl)
