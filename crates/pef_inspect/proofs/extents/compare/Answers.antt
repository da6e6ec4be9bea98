-- The note on a part is added, and those on the parts after it are left.
use Rattle.std.proofs.Common.{◌<◌, ◌∙◌, ◌++◌, max, get_or, take, ap, sym}
use Rattle.std.specs.Option.{option_to_list}
use Rattle.std.proofs.lemmas.List.{take_more}
use Rattle.pef_words.proofs.Laws.Findings.{taken-more}
use Rattle.pef_inspect.specs.Extents.{Extent, greatest_end}
use Rattle.pef_inspect.proofs.ExtentLemmas.{greatest_end-more, parts_notes-next}
use Rattle.pef_inspect.proofs.extents.compare.Goals as goal

pub loop-extent-preserved : goal.loop-extent-preserved
loop-extent-preserved g c =
    let on = g.P.NotedParts.note c.args.parts.now in
    let extents = c.args.extents.now in
    let i = c.loop-extent.extent-index in
    let d : Extent = (0, 0, 0) in
    let here = get_or extents i d in
    let under : i < _ = c.loop-extent-test.true in
    let ends = c.loop-extent.invariant.ends in
    let noted = option_to_list (on (greatest_end (take i extents)) here) in
    record {
      ends = c.max-end.ensures ∙ ap (λ n. max n here.2) ends ∙ sym (ap greatest_end (take_more extents i d under) ∙ greatest_end-more (take i extents) here);
      notes = taken-more c.loop-extent.found.items noted _ _ _
          (c.in_ok-push_some.ensures ∙ ap (λ o. c.loop-extent.found.items ++ option_to_list o) (c.note.ensures ∙ ap (λ n. on n here) ends))
          (rw (parts_notes-next on extents i d under) at c.loop-extent.invariant.notes);
    }
