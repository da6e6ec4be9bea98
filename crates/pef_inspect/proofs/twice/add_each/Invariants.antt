-- What was added and what is left are all, and the words of the programs passed are in the set.
use Rattle.std.proofs.Common.{◌≡◌, ◌++◌, ◌-◌}
use Rattle.std.specs.Option.{option_to_list}
use Rattle.pef_words.specs.Findings.{all_among}
use Rattle.pef_views.specs.PartialViews.{partly}
use Rattle.pef_loader.specs.PartialViews.{partly_loaded}
use Rattle.pef_inspect.specs.Kept.Seen.{IsSeen}
use Rattle.pef_inspect.specs.Twice.{twice_note, words_before}
use Rattle.pef_inspect.proofs.twice.add_each.Given as goal

abbrev pub invariant-loop-k : goal.invariant-loop-k
invariant-loop-k g l = record {
  found : l.found.items ++ all_among (λ k. option_to_list (twice_note (partly l.words.container.now) (partly_loaded l.words.loader.now) k)) l.k (l.count - l.k)
      ≡ l.fn.found.items ++ all_among (λ k. option_to_list (twice_note (partly l.words.container.now) (partly_loaded l.words.loader.now) k)) 0 l.count;
  seen : IsSeen l.seen (words_before (partly l.words.container.now) (partly_loaded l.words.loader.now) l.k);
}
