-- A section that is no loader section is passed over.
use Rattle.std.proofs.Common.{◌∙◌, ◌<◌, sym, arith}
use Rattle.pef_words.proofs.Laws.Refusals.{first_among-next}
use Rattle.pef_views.specs.Container.{behind_row_at}
use Rattle.pef_views.proofs.container.behind_row.Goals as goal

pub loop-i-preserved : goal.loop-i-preserved
loop-i-preserved c =
    let under : c.loop-i.i < c.args.header.section_count = omega arith in
    sym (first_among-next (behind_row_at c.args.cut.bytes.now c.args.header) _ _ under (sym c.in-None.ensures)) ∙ c.loop-i.invariant
