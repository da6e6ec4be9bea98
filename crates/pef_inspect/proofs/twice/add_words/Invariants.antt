-- The words passed are in the set, and the first that comes again was found or is among those left.
use Rattle.std.proofs.Common.{ℕ, List}
use Rattle.pef_reloc.specs.Left.{fixups_left}
use Rattle.pef_inspect.specs.Kept.Seen.{IsSeen}
use Rattle.pef_inspect.specs.Twice.{words_in}
use Rattle.pef_inspect.proofs.Seeing.{Walked}
use Rattle.pef_inspect.proofs.twice.add_words.Given as goal

abbrev pub invariant-loop-addition : goal.invariant-loop-addition
invariant-loop-addition g l = record {
  can : (goal.iterator-loop-addition g).can_next l.left;
  finite : (goal.iterator-loop-addition g).is_finite l.left;
  walked : (before : List (ℕ × ℕ)) → IsSeen l.fn.seen before → Walked before (words_in l.section (fixups_left l.fn.fixups)) l.seen l.again (words_in l.section (fixups_left l.left));
}
