use Rattle.std.proofs.Common.{◌≡◌, ◌++◌, length, option_map}
use Rattle.pef_lines.specs.Views.{words_left}
use Rattle.pef_cert.specs.Text.Lines.{registers_in}
use Rattle.pef_cert.proofs.text.numbers.registers_in.Given as goal

-- the numbers so far and those of the words that are left are those of all
abbrev pub invariant-loop-word : goal.invariant-loop-word
invariant-loop-word l = option_map (λ more. l.registers.items ++ more) (registers_in (words_left l.words)) ≡ registers_in (words_left l.fn.words)

abbrev pub decreases-loop-word : goal.decreases-loop-word
decreases-loop-word l = length (words_left l.words)
