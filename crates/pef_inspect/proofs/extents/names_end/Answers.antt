-- The name that begins last begins before the end of the bytes.
use Rattle.std.proofs.Common.{sym, ◌∙◌, rules}
use Rattle.pef_views.specs.PartialViews.{partly}
use Rattle.pef_inspect.proofs.ExtentLemmas.{last_name-inside}
use Rattle.pef_inspect.proofs.extents.names_end.Goals as goal

pub overflow_add-start : goal.overflow_add-start
overflow_add-start c =
    let p = partly c.args.container.now in
    let inside = last_name-inside p p.header.section_count c.in-Some.offset (sym c.last_name.ensures ∙ c.in-Some.is) in
    search rules
