-- The lengths fit, and section after section is written.
use Rattle.std.proofs.Common.{◌≡◌, ◌∙◌, ◌<◌, ◌≤◌, ◌++◌, length, ap, arith}
use Rattle.pef_write.specs.Fields.{padded}
use Rattle.pef_write.specs.Containers.{raw_data, raw_of, written_container}
use Rattle.pef_write.proofs.Fields.{all_written, from_nothing, one_more, resized}
use Rattle.pef_write.proofs.Containers.{fronts, length-written_container, raw_data-end, raw_data-more}
use Rattle.pef_write.proofs.container.write_container.Goals as goal

pub container_length-requires-clause-fits : goal.container_length-requires-clause-fits
container_length-requires-clause-fits c = omega (arith, length-written_container c.args.versions c.args.sections.now c.args.loader.now, c.requires.fits)

pub put_headers-requires-clause-fits : goal.put_headers-requires-clause-fits
put_headers-requires-clause-fits c = omega (arith, length-written_container c.args.versions c.args.sections.now c.args.loader.now, c.requires.fits)

pub loop-section-init : goal.loop-section-init
unfolding written_container
loop-section-init c =
    let start : c.put_headers.new.out.items ≡ fronts c.args.versions c.args.sections.now c.args.loader.now =
    from_nothing c.in_ok-out.out.items _ _ c.in_ok-put_headers.ensures c.in_ok-out.ensures.items in
    let front : c.resize.new.self.items ≡ padded 16 (fronts c.args.versions c.args.sections.now c.args.loader.now) =
    c.in_ok-resize.ensures.items ∙ resized 16 c.next_multiple_of-data_from.result c.put_headers.new.out.len c.put_headers.new.out.items (omega arith) (omega arith) ∙ ap (padded 16) start in
    ap (λ z. z ++ raw_data c.args.sections.now c.args.loader.now) front

pub loop-section-preserved : goal.loop-section-preserved
loop-section-preserved c =
    let under : c.loop-section.section-index < length c.args.sections.now = omega arith in
    one_more c.loop-section.out.items _ _ _ _ _ (c.in_ok-put_padded.ensures ∙ ap (λ raw. c.loop-section.out.items ++ padded 16 raw) (c.bytes.ensures.bytes ∙ ap raw_of c.section-item.is)) (raw_data-more c.args.sections.now c.args.loader.now c.loop-section.section-index c.section-item.result under) c.loop-section.invariant

pub returns : goal.returns
returns c =
    let past : length c.args.sections.now ≤ c.loop-section.section-index = omega arith in
    all_written c.loop-section.out.items _ _ _ _ c.in_ok-extend_from_slice.ensures.items (raw_data-end c.args.sections.now c.args.loader.now c.loop-section.section-index past) c.loop-section.invariant
