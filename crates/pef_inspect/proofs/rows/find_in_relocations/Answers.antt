-- The rows of the table, if it is whole.
use Rattle.std.proofs.Common.{◌≡◌, ◌∙◌, ◌++◌, map, length, sym, ap, true}
use Rattle.std.specs.Prelude.{nat_le}
use Rattle.pef_words.specs.Findings.{all_among}
use Rattle.pef_views.specs.PartialViews.{partly}
use Rattle.pef_loader.specs.declared.header.LoaderHeader.{LoaderHeader}
use Rattle.pef_loader.specs.Header.{tables_end}
use Rattle.pef_loader.specs.Partial.{relocation_findings}
use Rattle.pef_loader.specs.PartialViews.{partly_loaded}
use Rattle.pef_inspect.specs.Findings.{loader_finding}
use Rattle.pef_inspect.proofs.Taking.{rows-whole}
use Rattle.pef_inspect.proofs.rows.find_in_relocations.Goals as goal

pub returns : goal.returns
returns g c =
    let f = loader_finding (partly c.args.container.now) in
    let l = partly_loaded c.args.loader.now in
    let before = g.S.Findings.taken c.args.sink.now in
    let whole : nat_le (tables_end l.header) (length l.bytes) ≡ true = sym c.has_relocations.ensures ∙ c.if-not-has_relocations.false in
    c.in_ok-take_rows.ensures
    ∙ ap (λ (h : LoaderHeader). before ++ all_among (λ i. map f (relocation_findings l i)) 0 h.reloc_count) c.header-count.ensures
    ∙ ap (λ xs. before ++ xs) (rows-whole f (nat_le (tables_end l.header) (length l.bytes)) (relocation_findings l) l.header.reloc_count whole)
