-- The words of the programs passed are before the place, and none of these has a note.
use Rattle.std.proofs.Common.{◌≡◌, []}
use Rattle.std.specs.Option.{option_to_list}
use Rattle.pef_words.specs.Findings.{all_among}
use Rattle.pef_views.specs.PartialViews.{partly}
use Rattle.pef_loader.specs.PartialViews.{partly_loaded}
use Rattle.pef_inspect.specs.Kept.Rising.{AreBefore}
use Rattle.pef_inspect.specs.Twice.{twice_note, words_before}
use Rattle.pef_inspect.proofs.twice.all_rise.Given as goal

abbrev pub invariant-loop-k : goal.invariant-loop-k
invariant-loop-k l = record {
  before : AreBefore (words_before (partly l.words.container.now) (partly_loaded l.words.loader.now) l.k) l.place;
  none : all_among (λ k. option_to_list (twice_note (partly l.words.container.now) (partly_loaded l.words.loader.now) k)) 0 l.k ≡ [];
}
