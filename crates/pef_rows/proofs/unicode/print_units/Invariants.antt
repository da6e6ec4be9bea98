use Rattle.std.proofs.Common.{drop}
use Rattle.pef_rows.specs.Unicode.{units_string}
use Rattle.pef_ports.proofs.Laws.Sending.{IsSentUpTo}
use Rattle.pef_rows.proofs.unicode.print_units.Given as goal

abbrev pub invariant-loop-unit : goal.invariant-loop-unit
invariant-loop-unit g l = IsSentUpTo (g.W.Sink.stream l.fn.out) (g.W.Sink.stream l.out) l.fn.page.items l.page.items (units_string l.units) (units_string (drop l.unit-index l.units))
