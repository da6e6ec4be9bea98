use Rattle.pef_ports.proofs.Laws.Sending.{IsSentUpTo}
use Rattle.pef_tool.specs.Kept.Routines.{routines_text}
use Rattle.pef_tool.proofs.LoadedLemmas.{routines-left}
use Rattle.pef_tool.proofs.loaded.print_routines.Given as goal

abbrev pub invariant-loop-i : goal.invariant-loop-i
invariant-loop-i g l = IsSentUpTo (g.W.Sink.stream l.fn.out) (g.W.Sink.stream l.out) l.fn.page.items l.page.items
    (routines_text l.routine l.loaded.context l.loaded.connection.0 l.order) (routines-left l.routine l.loaded.context l.loaded.connection.0 l.order l.i)
