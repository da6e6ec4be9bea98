use Rattle.std.proofs.Common.{true}
use Rattle.pef_reloc.specs.Left.{fixups_left}
use Rattle.pef_ports.proofs.Laws.Sending.{IsSentUpTo}
use Rattle.cfm_rows.specs.Relocations.{word_elements}
use Rattle.cfm_rows.proofs.relocations.print_words.Given as goal

abbrev pub invariant-loop-addition : goal.invariant-loop-addition
invariant-loop-addition g l = record {
  can : (goal.iterator-loop-addition g).can_next l.rest;
  finite : (goal.iterator-loop-addition g).is_finite l.rest;
  sent : IsSentUpTo (g.W.Sink.stream l.fn.out) (g.W.Sink.stream l.out) l.fn.page.items l.page.items
      (word_elements true (fixups_left l.fixups)) (word_elements l.is_first (fixups_left l.rest));
}
