-- The note on a program is added, and those on the programs after it are left.
use Rattle.std.proofs.Common.{ℕ, List, ◌<◌, ◌∙◌, ◌++◌, ap, arith, subst}
use Rattle.std.specs.Option.{option_to_list}
use Rattle.pef_words.proofs.Laws.Findings.{all_among-next, taken-more}
use Rattle.pef_views.specs.PartialViews.{partly}
use Rattle.pef_loader.specs.PartialViews.{partly_loaded}
use Rattle.pef_inspect.specs.declared.finding.Finding.{Finding}
use Rattle.pef_inspect.specs.Kept.Seen.{IsSeen}
use Rattle.pef_inspect.specs.Twice.{twice_note, words_at, words_before}
use Rattle.pef_inspect.proofs.Seeing.{among_last}
use Rattle.pef_inspect.proofs.twice.add_each.Goals as goal

pub loop-k-preserved : goal.loop-k-preserved
loop-k-preserved g c =
    let p = partly c.args.words.container.now in
    let l = partly_loaded c.args.words.loader.now in
    let notes : ℕ → List Finding = λ k. option_to_list (twice_note p l k) in
    let under : c.loop-k.k < c.args.count = omega arith in
    let before = words_before p l c.loop-k.k in
    record {
      found = taken-more c.loop-k.found.items (notes c.loop-k.k) _ _ _
          (c.in_ok-push_some.ensures ∙ ap (λ o. c.loop-k.found.items ++ option_to_list o) (c.in_ok-twice.ensures.note before c.loop-k.invariant.seen))
          (rw (all_among-next notes c.loop-k.k c.args.count under) at c.loop-k.invariant.found);
      seen = subst (λ words. IsSeen c.twice.new.seen words) (among_last (words_at p l) c.loop-k.k) (c.in_ok-twice.ensures.seen before c.loop-k.invariant.seen);
    }
