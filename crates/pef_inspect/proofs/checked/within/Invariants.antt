-- The parts passed, and those that are left.
use Rattle.std.proofs.Common.{◌≡◌, ◌+◌, ◌-◌}
use Rattle.pef_inspect.specs.Limits.{left_within, within}
use Rattle.pef_inspect.proofs.checked.within.Given as goal

abbrev pub invariant-loop-i : goal.invariant-loop-i
invariant-loop-i g l = record {
  parts : l.i + within (g.C.Costed.cost l.parts) l.left l.i (l.count - l.i) ≡ within (g.C.Costed.cost l.parts) l.most 0 l.count;
  rest : left_within (g.C.Costed.cost l.parts) l.left l.i (l.count - l.i) ≡ left_within (g.C.Costed.cost l.parts) l.most 0 l.count;
}
