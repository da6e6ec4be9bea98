-- A part is added, and those of the sections after it are left.
use Rattle.std.proofs.Common.{ℕ, List, ◌<◌, ◌∙◌, ◌++◌, ap, arith}
use Rattle.std.specs.Option.{option_to_list}
use Rattle.pef_words.proofs.Laws.Findings.{all_among-next, taken-more}
use Rattle.pef_views.specs.PartialViews.{partly}
use Rattle.pef_inspect.specs.Extents.{Extent, section_extent}
use Rattle.pef_inspect.proofs.extents.extents_of.Goals as goal

pub loop-i-preserved : goal.loop-i-preserved
loop-i-preserved g c =
    let p = partly c.args.container.now in
    let n = p.header.section_count in
    let parts : ℕ → List Extent = λ i. option_to_list (section_extent p i) in
    let count = ap (λ h. h.section_count) c.header-i-end.ensures in
    let under : c.loop-i.i < n = omega (arith, count) in
    taken-more c.loop-i.extents.items (parts c.loop-i.i) _ _ _
    (c.in_ok-push_some.ensures ∙ ap (λ o. c.loop-i.extents.items ++ option_to_list o) c.section_extent.ensures)
    (rw (all_among-next parts c.loop-i.i n under) at c.loop-i.invariant)
