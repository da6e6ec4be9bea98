-- The greatest of both tables.
use Rattle.std.proofs.Common.{ℕ, ◌∙◌, ap, ap₂, max}
use Rattle.pef_views.specs.Extents.{greatest}
use Rattle.pef_loader.specs.PartialViews.{partly_loaded}
use Rattle.pef_inspect.specs.LoaderParts.{import_begin, library_begin}
use Rattle.pef_inspect.proofs.loader_parts.last_begin.Goals as goal

pub returns : goal.returns
returns c =
    let l = partly_loaded c.args.loader.now in
    c.max.ensures
    ∙ ap₂ (λ (x y : ℕ). max x y)
    (c.greatest-libraries.ensures ∙ ap (greatest (library_begin l) 0) c.libraries.ensures.value)
    (c.greatest.ensures ∙ ap (greatest (import_begin l) 0) c.imports.ensures.value)
