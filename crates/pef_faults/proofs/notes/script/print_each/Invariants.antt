-- The words so far.
use Rattle.std.proofs.Common.{drop, map}
use Rattle.pef_ports.proofs.Laws.Sending.{IsSentUpTo}
use Rattle.pef_faults.specs.Notes.Scripts.{each_text}
use Rattle.pef_faults.proofs.notes.script.print_each.Given as goal

abbrev pub invariant-loop-word : goal.invariant-loop-word
invariant-loop-word g l = IsSentUpTo (g.W.Sink.stream l.fn.out) (g.W.Sink.stream l.out) l.fn.page.items l.page.items (each_text (map (λ word. word.now) l.words)) (each_text (map (λ word. word.now) (drop l.word-index l.words)))
