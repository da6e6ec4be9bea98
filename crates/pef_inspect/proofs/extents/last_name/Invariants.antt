-- The greatest so far, and that of those left.
use Rattle.std.proofs.Common.{◌≡◌, ◌-◌}
use Rattle.pef_views.specs.PartialViews.{partly}
use Rattle.pef_inspect.specs.Extents.{last_name, later}
use Rattle.pef_inspect.proofs.extents.last_name.Given as goal

abbrev pub invariant-loop-i : goal.invariant-loop-i
invariant-loop-i l = later l.last (last_name (partly l.container) l.i ((partly l.container).header.section_count - l.i)) ≡ last_name (partly l.container) 0 (partly l.container).header.section_count
