use Rattle.std.proofs.Common.{◌∙◌, sym, ap}
use Rattle.std.specs.Prelude.{[], slice_index_or}
use Rattle.pef_labels.proofs.RowLemmas.{row-placed}
use Rattle.pef_labels.proofs.rows.LabelRows.row.Goals as goal

pub returns-clause-is : goal.returns-clause-is
returns-clause-is c =
    let k = c.kept-kept.result in
    c.row.ensures.is
    ∙ (row-placed k.width k.ends.now k.values.now c.args.index c.place_of.result c.kept-kept.ensures.full c.place_of.ensures
    ∙ ap (λ rows. slice_index_or rows c.args.index []) (sym c.kept-kept.ensures.rows))
