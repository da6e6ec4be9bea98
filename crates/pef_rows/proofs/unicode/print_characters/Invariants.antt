-- What is sent, and the characters left.
use Rattle.std.specs.Str.{IsUtf8, chars}
use Rattle.pef_rows.specs.Unicode.{characters_string}
use Rattle.pef_ports.proofs.Laws.Sending.{IsSentUpTo}
use Rattle.pef_rows.proofs.unicode.print_characters.Given as goal

abbrev pub invariant-loop-c : goal.invariant-loop-c
invariant-loop-c g l = record {
  sent : IsSentUpTo (g.W.Sink.stream l.fn.out) (g.W.Sink.stream l.out) l.fn.page.items l.page.items (characters_string (chars l.text)) (characters_string (chars l.c-iterator.rest.now));
  utf8 : IsUtf8 l.c-iterator.rest.now;
}
