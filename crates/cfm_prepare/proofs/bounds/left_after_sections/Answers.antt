-- A section takes a part of what is left, or more than that.
use Rattle.std.proofs.Common.{◌≡◌, ◌+◌, ◌-◌, ℕ, sym, ap, ◌∙◌, arith}
use Rattle.std.specs.Option.{option_map_or}
use Rattle.cfm_memory.specs.Extents.{Extent}
use Rattle.cfm_memory.specs.Placement.{taken}
use Rattle.pef_views.specs.Container.{Contained}
use Rattle.pef_views.specs.Views.{contained}
use Rattle.cfm_prepare.specs.Bounds.{bytes_of}
use Rattle.cfm_sections.specs.Images.{extent_at, extent_in, extents_from}
use Rattle.cfm_prepare.specs.Kept.Bounds.{left_of}
use Rattle.cfm_prepare.proofs.BoundLemmas.{bytes-next, step-here}
use Rattle.cfm_prepare.proofs.bounds.left_after_sections.Goals as goal

pub loop-i-preserved : goal.loop-i-preserved
loop-i-preserved c =
    let at = c.loop-i in
    let container : Contained = contained c.args.container.now in
    let g = c.args.granule.bytes in
    let count = c.from-count.result in
    let is : record { size = c.in-Some.section.header.total_size; alignment = c.in-Some.section.header.alignment } ≡ extent_at container at.i = ap (λ o. option_map_or extent_in o (record { size = 0; alignment = 0 })) c.in-Some.ensures.value in
    let takes : c.taken-taken.result ≡ taken g (extent_at container at.i).size = c.taken-taken.ensures ∙ ap (λ (e : Extent). taken g e.size) is in
    let more = bytes_of g (extents_from container (at.i + 1) (count - (at.i + 1))) in
    let rest = bytes-next container g at.i count c.loop-i-test.true ∙ ap (λ (k : ℕ). k + more) (sym takes) in
    step-here at.left c.taken-taken.result more (bytes_of g (extents_from container at.i (count - at.i))) (left_of c.args.bytes (bytes_of g (extents_from container 0 count))) rest (omega (arith, c.if-taken-left.false)) at.invariant
