use Rattle.std.proofs.Common.{drop, map}
use Rattle.cfm_prepare.specs.Fragments.{places_of}
use Rattle.pef_ports.proofs.Laws.Sending.{IsSentUpTo}
use Rattle.pef_tool.specs.Fragment.{placed_section, sections_text}
use Rattle.pef_tool.proofs.loaded.print_sections.Given as goal

abbrev pub invariant-loop-i : goal.invariant-loop-i
invariant-loop-i g l = IsSentUpTo (g.W.Sink.stream l.fn.out) (g.W.Sink.stream l.out) l.fn.page.items l.page.items
    (sections_text 0 (map (placed_section l.context.memory) (places_of l.context.present l.position)))
    (sections_text l.i (map (placed_section l.context.memory) (drop l.i (places_of l.context.present l.position))))
