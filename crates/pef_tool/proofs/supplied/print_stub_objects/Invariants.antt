-- Those so far were sent.
use Rattle.std.proofs.Common.{drop}
use Rattle.pef_ports.proofs.Laws.Sending.{IsSentUpTo}
use Rattle.pef_tool.specs.Supplied.{stub_objects}
use Rattle.pef_tool.proofs.supplied.print_stub_objects.Given as goal

abbrev pub invariant-loop-stub : goal.invariant-loop-stub
invariant-loop-stub g l = IsSentUpTo (g.W.Sink.stream l.fn.out) (g.W.Sink.stream l.out) l.fn.page.items l.page.items
    (stub_objects l.stubs) (stub_objects (drop l.stub-index l.stubs))
