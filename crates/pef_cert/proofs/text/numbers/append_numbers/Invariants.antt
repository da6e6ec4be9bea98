use Rattle.std.proofs.Common.{◌≡◌, ◌++◌, length, option_map}
use Rattle.pef_lines.specs.Views.{words_left}
use Rattle.pef_cert.specs.Text.Words.{numbers_in}
use Rattle.pef_cert.proofs.text.numbers.append_numbers.Given as goal

-- the numbers so far and those of the words that are left are those of all
abbrev pub invariant-words : goal.invariant-words
invariant-words l = option_map (λ more. l.numbers.items ++ more) (numbers_in (words_left l.words)) ≡ option_map (λ more. l.fn.numbers.items ++ more) (numbers_in (words_left l.fn.words))

abbrev pub decreases-words : goal.decreases-words
decreases-words l = length (words_left l.words)
