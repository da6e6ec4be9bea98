-- A program is added, and those after it are left.
use Rattle.std.proofs.Common.{ℕ, List, ◌<◌, ◌∙◌, ◌++◌, ap, arith}
use Rattle.std.specs.Option.{option_to_list}
use Rattle.pef_words.proofs.Laws.Findings.{all_among-next, taken-more}
use Rattle.pef_loader.specs.Header.{relocs_from}
use Rattle.pef_loader.specs.Partial.{rows_in}
use Rattle.pef_loader.specs.PartialViews.{partly_loaded}
use Rattle.pef_inspect.specs.Extents.{Extent}
use Rattle.pef_inspect.specs.LoaderParts.{program_part}
use Rattle.pef_inspect.proofs.loader_parts.add_programs.Goals as goal

pub loop-k-preserved : goal.loop-k-preserved
loop-k-preserved g c =
    let l = partly_loaded c.args.loader.now in
    let n = rows_in l (relocs_from l.header) 12 l.header.reloc_count in
    let parts : ℕ → List Extent = λ k. option_to_list (program_part l k) in
    let count = c.relocations-k-end.ensures.value in
    let under : c.loop-k.k < n = omega (arith, count) in
    taken-more c.loop-k.extents.items (parts c.loop-k.k) _ _ _
    (c.in_ok-push_some.ensures ∙ ap (λ o. c.loop-k.extents.items ++ option_to_list o) c.program_part.ensures)
    (rw (all_among-next parts c.loop-k.k n under) at c.loop-k.invariant)
