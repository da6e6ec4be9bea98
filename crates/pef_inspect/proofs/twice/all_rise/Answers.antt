-- The next program has no note, and its words are before the next place.
use Rattle.std.proofs.Common.{ap, subst}
use Rattle.pef_views.specs.PartialViews.{partly}
use Rattle.pef_loader.specs.PartialViews.{partly_loaded}
use Rattle.pef_inspect.specs.Kept.Rising.{AreBefore}
use Rattle.pef_inspect.specs.Twice.{again_note, twice_note, words_at, words_before}
use Rattle.pef_inspect.proofs.RisingLemmas.{none-next}
use Rattle.pef_inspect.proofs.Seeing.{among_last}
use Rattle.pef_inspect.proofs.twice.all_rise.Goals as goal

pub loop-k-preserved : goal.loop-k-preserved
loop-k-preserved c =
    let p = partly c.args.words.container.now in
    let l = partly_loaded c.args.words.loader.now in
    let follow = c.in-Some.ensures (words_before p l c.loop-k.k) c.loop-k.invariant.before in
    record {
      before = subst (λ words. AreBefore words c.in-Some.end) (among_last (words_at p l) c.loop-k.k) follow.all;
      none = none-next (twice_note p l) c.loop-k.k c.loop-k.invariant.none (ap (again_note p c.loop-k.k) follow.once);
    }
