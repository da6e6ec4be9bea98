use Rattle.std.proofs.Common.{drop}
use Rattle.pef_ports.proofs.Laws.Sending.{IsSentUpTo}
use Rattle.cfm_rows.specs.Symbols.{symbol_lines}
use Rattle.cfm_rows.proofs.symbols.print_symbol_lines.Given as goal

abbrev pub invariant-loop-k : goal.invariant-loop-k
invariant-loop-k g l = IsSentUpTo (g.W.Sink.stream l.fn.out) (g.W.Sink.stream l.out) l.fn.page.items l.page.items
    (symbol_lines l.stub.exports) (symbol_lines (drop l.k l.stub.exports))
