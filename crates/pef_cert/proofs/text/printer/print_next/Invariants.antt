use Rattle.std.proofs.Common.{◌≡◌, ◌≤◌, length, take, drop}
use Rattle.pef_cert.specs.Text.Printed.{number_words, words_text}
use Rattle.pef_ports.proofs.Laws.Sending.{IsSentUpTo}
use Rattle.pef_cert.proofs.text.printer.print_next.Given as goal

abbrev pub invariant-parts : goal.invariant-parts
invariant-parts g l = record {
  sent : IsSentUpTo (g.W.Sink.stream l.fn.out) (g.W.Sink.stream l.out) l.fn.page.items l.page.items (words_text (number_words (take l.count l.fn.numbers))) (words_text (number_words (take l.left l.numbers)));
  behind : drop l.count l.fn.numbers ≡ drop l.left l.numbers;
  fits : l.left ≤ length l.numbers;
}

abbrev pub decreases-parts : goal.decreases-parts
decreases-parts g l = l.left
