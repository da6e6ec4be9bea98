-- The parts so far, and those that are left.
use Rattle.std.proofs.Common.{◌≡◌, ◌++◌, ◌∷◌, ◌-◌}
use Rattle.std.specs.Option.{option_to_list}
use Rattle.pef_words.specs.Findings.{all_among}
use Rattle.pef_views.specs.PartialViews.{partly}
use Rattle.pef_inspect.specs.Extents.{head_extent, section_extent}
use Rattle.pef_inspect.proofs.extents.extents_of.Given as goal

abbrev pub invariant-loop-i : goal.invariant-loop-i
invariant-loop-i g l = l.extents.items ++ all_among (λ i. option_to_list (section_extent (partly l.container) i)) l.i ((partly l.container).header.section_count - l.i)
    ≡ head_extent (partly l.container) ∷ all_among (λ i. option_to_list (section_extent (partly l.container) i)) 0 (partly l.container).header.section_count
