use Rattle.std.proofs.Common.{◌≡◌, ◌++◌, length, option_map}
use Rattle.pef_lines.specs.Views.{words_left}
use Rattle.pef_cert.specs.Text.Words.{halfwords_in}
use Rattle.pef_cert.proofs.text.program.append_halfwords.Given as goal

-- the bytes so far and those of the words that are left are those of all
abbrev pub invariant-loop-word : goal.invariant-loop-word
invariant-loop-word l = option_map (λ more. l.bytes.items ++ more) (halfwords_in (words_left l.words)) ≡ option_map (λ more. l.fn.bytes.items ++ more) (halfwords_in (words_left l.fn.words))

abbrev pub decreases-loop-word : goal.decreases-loop-word
decreases-loop-word l = length (words_left l.words)
