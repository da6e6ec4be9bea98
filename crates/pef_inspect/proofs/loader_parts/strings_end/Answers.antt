-- The greatest of the ends.
use Rattle.std.proofs.Common.{ℕ, ◌∙◌, ap, ap₂, max}
use Rattle.pef_views.specs.Extents.{greatest}
use Rattle.pef_loader.specs.PartialViews.{partly_loaded}
use Rattle.pef_inspect.specs.LoaderParts.{ended_by, export_end}
use Rattle.pef_inspect.proofs.loader_parts.strings_end.Goals as goal

pub returns : goal.returns
returns c =
    let l = partly_loaded c.args.loader.now in
    c.max.ensures
    ∙ ap₂ (λ (x y : ℕ). max x y)
    (c.ended_by.ensures ∙ ap (ended_by l) c.last_begin.ensures)
    (c.greatest-exports.ensures ∙ ap (greatest (export_end l) 0) c.exports.ensures.value)
