-- A section ends last so far, or doesn't.
use Rattle.std.proofs.Common.{ℕ, ◌+◌, ◌-◌, ◌<◌, ◌∙◌, ap, arith, max}
use Rattle.pef_views.specs.Extents.{greatest}
use Rattle.pef_views.specs.Partial.{header_in}
use Rattle.pef_views.specs.PartialViews.{partly}
use Rattle.pef_views.proofs.Laws.{greatest-next}
use Rattle.pef_inspect.specs.Needs.{section_end}
use Rattle.pef_inspect.proofs.needs.needed_by.Goals as goal

pub loop-i-preserved : goal.loop-i-preserved
loop-i-preserved c =
    let p = partly c.args.container.now in
    let ends : ℕ → ℕ = λ i. section_end (header_in p i) in
    let i = c.loop-i.i in
    let n = p.header.section_count in
    let count = ap (λ h. h.section_count) c.header-i-end.ensures in
    let under : i < n = omega (arith, count) in
    ap (λ e. max e (greatest ends (i + 1) (n - (i + 1)))) (c.max-end.ensures ∙ ap (max c.loop-i.end) (c.section_end.ensures ∙ (ap section_end c.section.ensures ∙ ap ends c.from.ensures)))
    ∙ (greatest-next ends i n c.loop-i.end under ∙ c.loop-i.invariant)
