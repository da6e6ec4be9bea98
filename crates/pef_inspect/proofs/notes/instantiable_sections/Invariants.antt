-- What was counted, and what is left to be counted.
use Rattle.std.proofs.Common.{◌≡◌, ◌+◌, ◌-◌, ◌≤◌}
use Rattle.pef_views.specs.PartialViews.{partly}
use Rattle.pef_inspect.specs.Oddities.{instantiable_among, instantiable_sections}
use Rattle.pef_inspect.proofs.notes.instantiable_sections.Given as goal

abbrev pub invariant-loop-i : goal.invariant-loop-i
invariant-loop-i l = record {
  value : l.count + instantiable_among (partly l.container) l.i ((partly l.container).header.section_count - l.i) ≡ instantiable_sections (partly l.container);
  below : l.count ≤ l.i;
}
