-- The exports, if their table is whole.
use Rattle.std.proofs.Common.{◌≡◌, ◌∙◌, ◌++◌, map, sym, ap, true}
use Rattle.pef_words.specs.Findings.{all_among}
use Rattle.pef_views.specs.PartialViews.{partly}
use Rattle.pef_loader.specs.declared.header.LoaderHeader.{LoaderHeader}
use Rattle.pef_loader.specs.Export.{has_exports}
use Rattle.pef_loader.specs.Partial.{export_findings, if_whole}
use Rattle.pef_loader.specs.PartialViews.{partly_loaded}
use Rattle.pef_inspect.specs.Findings.{loader_finding}
use Rattle.pef_inspect.proofs.Taking.{rows-whole_each}
use Rattle.pef_inspect.proofs.rows.find_in_exports.Goals as goal

pub returns : goal.returns
returns g c =
    let f = loader_finding (partly c.args.container.now) in
    let l = partly_loaded c.args.loader.now in
    let before = g.S.Findings.taken c.args.sink.now in
    let whole : has_exports l.bytes l.header ≡ true = sym c.has_exports.ensures ∙ c.if-not-has_exports.false in
    c.in_ok-take_rows.ensures
    ∙ ap (λ (h : LoaderHeader). before ++ all_among (λ i. map f (if_whole (has_exports l.bytes l.header) (export_findings l i))) 0 h.export_count) c.header-count.ensures
    ∙ ap (λ xs. before ++ xs) (rows-whole_each f (has_exports l.bytes l.header) (export_findings l) l.header.export_count whole)
