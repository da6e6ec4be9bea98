-- A section adds one, or none.
use Rattle.std.proofs.Common.{◌<◌, ap, arith}
use Rattle.pef_views.specs.declared.header.Header.{Header}
use Rattle.pef_views.specs.PartialViews.{partly}
use Rattle.pef_inspect.proofs.NoteLemmas.{instantiable-next}
use Rattle.pef_inspect.proofs.notes.instantiable_sections.Goals as goal

pub loop-i-preserved : goal.loop-i-preserved
loop-i-preserved c =
    let p = partly c.args.container.now in
    let n = p.header.section_count in
    let i = c.loop-i.i in
    let count = ap (λ (h : Header). h.section_count) c.header-i-end.ensures in
    let under : i < n = omega (arith, count) in
    let next = instantiable-next p i n under in
    let one = c.instantiable_at-count.ensures in
    let held = c.loop-i.invariant in
    record {
      value = omega (arith, next, one.value, held.value);
      below = omega (arith, one.below, held.below);
    }
