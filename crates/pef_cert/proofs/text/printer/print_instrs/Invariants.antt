use Rattle.std.proofs.Common.{◌≡◌, true, drop}
use Rattle.pef_reloc.specs.Instrs.{instrs_fit, spelled}
use Rattle.pef_cert.specs.Text.Printed.{halfword_words, words_text}
use Rattle.pef_ports.proofs.Laws.Sending.{IsSentUpTo}
use Rattle.pef_cert.proofs.text.printer.print_instrs.Given as goal

abbrev pub invariant-loop-instr : goal.invariant-loop-instr
invariant-loop-instr g l = record {
  sent : IsSentUpTo (g.W.Sink.stream l.fn.out) (g.W.Sink.stream l.out) l.fn.page.items l.page.items (words_text (halfword_words (spelled l.instrs))) (words_text (halfword_words (spelled (drop l.instr-index l.instrs))));
  fit : instrs_fit (drop l.instr-index l.instrs) ≡ true;
}
