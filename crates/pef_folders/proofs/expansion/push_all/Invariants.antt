-- The words so far, and those that are left, are all words.
use Rattle.std.proofs.Common.{◌≡◌, ◌++◌, drop, map}
use Rattle.std.specs.Prelude.{string_bytes}
use Rattle.pef_folders.proofs.expansion.push_all.Given as goal

abbrev pub invariant-loop-word : goal.invariant-loop-word
invariant-loop-word l = map string_bytes l.out.items ++ map (λ w. w.now) (drop l.word-index l.words) ≡ map string_bytes l.fn.out.items ++ map (λ w. w.now) l.words
