-- The greatest so far, and those left.
use Rattle.std.proofs.Common.{◌≡◌, ◌-◌, max}
use Rattle.pef_views.specs.Extents.{greatest}
use Rattle.pef_inspect.proofs.loader_parts.greatest.Given as goal

abbrev pub invariant-loop-i : goal.invariant-loop-i
invariant-loop-i g l = max l.most (greatest (g.N.Numbers.number l.rows) l.i (l.count - l.i)) ≡ greatest (g.N.Numbers.number l.rows) 0 l.count
