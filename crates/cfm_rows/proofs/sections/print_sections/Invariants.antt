use Rattle.std.proofs.Common.{drop}
use Rattle.cfm_prepare.specs.Fragments.{places_of}
use Rattle.pef_ports.proofs.Laws.Sending.{IsSentUpTo}
use Rattle.cfm_rows.specs.Sections.{bytes_shown, section_elements}
use Rattle.cfm_rows.proofs.sections.print_sections.Given as goal

abbrev pub invariant-loop-i : goal.invariant-loop-i
invariant-loop-i g l = IsSentUpTo (g.W.Sink.stream l.fn.out) (g.W.Sink.stream l.out) l.fn.page.items l.page.items
    (section_elements l.context l.place.connection.0 l.place.position (bytes_shown l.shown) 0 (places_of l.context.present l.place.position))
    (section_elements l.context l.place.connection.0 l.place.position (bytes_shown l.shown) l.i (drop l.i (places_of l.context.present l.place.position)))
