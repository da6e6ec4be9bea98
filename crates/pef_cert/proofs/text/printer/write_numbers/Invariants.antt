use Rattle.std.proofs.Common.{◌≡◌, ◌*◌, ◌≤◌, drop, length}
use Rattle.pef_cert.specs.Text.Printed.{number_words, words_text}
use Rattle.pef_cert.proofs.text.printer.write_numbers.Given as goal

-- the numbers that are written end the words
abbrev pub invariant-numbers : goal.invariant-numbers
invariant-numbers l = record {
  inside : l.at ≤ length l.words;
  room : 11 * l.left ≤ l.at;
  count : l.left ≤ length l.numbers;
  written : drop l.at l.words ≡ words_text (number_words (drop l.left l.numbers));
}

abbrev pub decreases-numbers : goal.decreases-numbers
decreases-numbers l = l.left
