use Rattle.std.proofs.Common.{◌≤◌, ◌-◌, length}
use Rattle.pef_ports.specs.Ports.{Begins, NoneFailed}
use Rattle.pef_ports.proofs.input.read_input.Given as goal

abbrev pub invariant-loop-bytes : goal.invariant-loop-bytes
invariant-loop-bytes g l = record {
  begins : Begins (g.R.Source.stream l.fn.input).bytes (g.R.Source.stream l.input).bytes l.bytes.items;
  sound : NoneFailed (g.R.Source.stream l.fn.input) (g.R.Source.stream l.input);
  short : length l.bytes.items ≤ l.limit;
}

abbrev pub decreases-loop-bytes : goal.decreases-loop-bytes
decreases-loop-bytes g l = l.limit - length l.bytes.items
