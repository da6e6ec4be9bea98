-- The number of a row is the greatest so far, or isn't.
use Rattle.std.proofs.Common.{ℕ, ◌+◌, ◌-◌, ◌∙◌, ap, max}
use Rattle.pef_views.specs.Extents.{greatest}
use Rattle.pef_views.proofs.Laws.{greatest-next}
use Rattle.pef_inspect.proofs.loader_parts.greatest.Goals as goal

pub loop-i-preserved : goal.loop-i-preserved
loop-i-preserved g c =
    let number : ℕ → ℕ = g.N.Numbers.number c.args.rows.now in
    let i = c.loop-i.i in
    let n = c.args.count in
    ap (λ e. max e (greatest number (i + 1) (n - (i + 1)))) (c.max-most.ensures ∙ ap (max c.loop-i.most) c.number.ensures)
    ∙ (greatest-next number i n c.loop-i.most c.loop-i-test.true ∙ c.loop-i.invariant)
