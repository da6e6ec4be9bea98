-- From empty cells, library by library.
use Rattle.std.proofs.Common.{◌-◌, length, ap, ◌∙◌, arith}
use Rattle.std.specs.Prelude.{min}
use Rattle.pef_loader.proofs.BlockLemmas.{more}
use Rattle.pef_loader.proofs.painting.paint_owners.Goals as goal

pub loop-i-preserved : goal.loop-i-preserved
loop-i-preserved c =
    let size = length c.loop-i.cells in
    let from = c.args.from in
    record {
      owners = more c.args.tables.cut.bytes.now c.loop-i.i from c.min-start.result c.min-end.result _ c.loop-i.cells c.paint.new.cells (omega arith) c.loop-i.invariant.owners
          (c.min-start.ensures ∙ ap (λ x. min x size) (c.saturating_sub.ensures ∙ ap (λ x. x - from) c.imports_of-imports.ensures.start))
          (c.min-end.ensures ∙ ap (λ x. min x size) (c.saturating_sub-in-loop-i.ensures ∙ ap (λ x. x - from) c.imports_of-imports.ensures.end))
          (omega arith) c.paint.ensures.painted;
      steps = c.paint.ensures.steps;
      len = c.paint.ensures.painted.as_many ∙ c.loop-i.invariant.len;
    }
