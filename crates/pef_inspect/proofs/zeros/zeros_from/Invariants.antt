-- The rows passed are zero bytes.
use Rattle.std.proofs.Common.{◌≡◌, ◌+◌, ◌-◌}
use Rattle.pef_views.specs.PartialViews.{partly}
use Rattle.pef_inspect.specs.Zeros.{zeros_from}
use Rattle.pef_inspect.proofs.zeros.zeros_from.Given as goal

abbrev pub invariant-loop-j : goal.invariant-loop-j
invariant-loop-j l = (l.j - l.i) + zeros_from (partly l.container) l.table l.j (l.table.count - l.j) ≡ zeros_from (partly l.container) l.table l.i (l.table.count - l.i)
