use Rattle.std.proofs.Common.{◌≡◌, drop, map}
use Rattle.pef_script.specs.Text.Kept.Kinds.{paired}
use Rattle.pef_script.specs.Text.SoFar.{word_in}
use Rattle.pef_script.proofs.text.kinds.word_of.Given as goal

-- the words left decide
abbrev pub invariant-loop-place : goal.invariant-loop-place
invariant-loop-place g l =
    word_in (paired (map (λ text. text.now) (drop l.place l.words)) (drop l.place l.values)) l.word
    ≡ word_in (paired (map (λ text. text.now) l.words) l.values) l.word
