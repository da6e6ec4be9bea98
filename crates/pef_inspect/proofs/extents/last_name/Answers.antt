-- The greatest so far is one of those passed.
use Rattle.std.proofs.Common.{◌<◌, ◌∙◌, ◌+◌, ◌-◌, ap, sym, arith}
use Rattle.pef_views.specs.PartialViews.{partly}
use Rattle.pef_inspect.specs.Extents.{last_name, later, name_offset}
use Rattle.pef_inspect.proofs.ExtentLemmas.{last_name-next, later-assoc}
use Rattle.pef_inspect.proofs.extents.last_name.Goals as goal

pub loop-i-preserved : goal.loop-i-preserved
loop-i-preserved c =
    let p = partly c.args.container.now in
    let n = p.header.section_count in
    let i = c.loop-i.i in
    let rest = last_name p (i + 1) (n - (i + 1)) in
    let count = ap (λ h. h.section_count) c.header-i-end.ensures in
    let under : i < n = omega (arith, count) in
    ap (λ o. later o rest) (c.later-last.ensures ∙ ap (later c.loop-i.last) c.name_offset.ensures)
    ∙ later-assoc c.loop-i.last (name_offset p i) rest
    ∙ ap (later c.loop-i.last) (sym (last_name-next p i n under))
    ∙ c.loop-i.invariant
