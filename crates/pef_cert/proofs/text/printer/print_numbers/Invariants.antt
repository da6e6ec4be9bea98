use Rattle.std.proofs.Common.{length}
use Rattle.pef_cert.specs.Text.Printed.{number_words, words_text}
use Rattle.pef_ports.proofs.Laws.Sending.{IsSentUpTo}
use Rattle.pef_cert.proofs.text.printer.print_numbers.Given as goal

abbrev pub invariant-parts : goal.invariant-parts
invariant-parts g l = IsSentUpTo (g.W.Sink.stream l.fn.out) (g.W.Sink.stream l.out) l.fn.page.items l.page.items (words_text (number_words l.numbers)) (words_text (number_words l.left))

abbrev pub decreases-parts : goal.decreases-parts
decreases-parts g l = length l.left
