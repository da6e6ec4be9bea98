use Rattle.std.proofs.Common.{◌≤◌, ◌-◌, length, take}
use Rattle.pef_ports.specs.Ports.{Grows, NoneFailed}
use Rattle.pef_ports.proofs.page.write_all.Given as goal

abbrev pub invariant-loop-at : goal.invariant-loop-at
invariant-loop-at g l = record {
  inside : l.at ≤ length l.bytes;
  sent : Grows (g.W.Sink.stream l.fn.out).bytes (g.W.Sink.stream l.out).bytes (take l.at l.bytes);
  sound : NoneFailed (g.W.Sink.stream l.fn.out) (g.W.Sink.stream l.out);
}

abbrev pub decreases-loop-at : goal.decreases-loop-at
decreases-loop-at g l = length l.bytes - l.at
