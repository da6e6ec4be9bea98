-- One more section is counted, and at the end none is left.
use Rattle.std.proofs.Common.{◌∙◌, ◌<◌, ◌≤◌, length, ap, arith}
use Rattle.pef_write.specs.Containers.{raw_of}
use Rattle.pef_write.proofs.Containers.{length-raw_data-more, raw_data-end}
use Rattle.pef_write.proofs.container.container_length.Goals as goal

pub loop-section-preserved : goal.loop-section-preserved
loop-section-preserved c =
    let under : c.loop-section.section-index < length c.args.sections.now = omega arith in
    let more = length-raw_data-more c.args.sections.now c.args.loader.now c.loop-section.section-index c.section-item.result under in
    let raw = c.bytes.ensures.bytes ∙ ap raw_of c.section-item.is in
    omega (arith, more, ap length raw, c.loop-section.invariant)

pub returns : goal.returns
returns c =
    let past : length c.args.sections.now ≤ c.loop-section.section-index = omega arith in
    let end = ap length (raw_data-end c.args.sections.now c.args.loader.now c.loop-section.section-index past) in
    omega (arith, end, c.loop-section.invariant)
