-- The greatest end so far, and those of the sections left.
use Rattle.std.proofs.Common.{◌≡◌, ◌-◌, max}
use Rattle.pef_views.specs.Extents.{greatest}
use Rattle.pef_views.specs.Partial.{header_in}
use Rattle.pef_views.specs.PartialViews.{partly}
use Rattle.pef_inspect.specs.Needs.{needed_by, section_end}
use Rattle.pef_inspect.proofs.needs.needed_by.Given as goal

abbrev pub invariant-loop-i : goal.invariant-loop-i
invariant-loop-i l = max l.end (greatest (λ i. section_end (header_in (partly l.container) i)) l.i ((partly l.container).header.section_count - l.i)) ≡ needed_by (partly l.container)
