-- What is left after the sections so far.
use Rattle.std.proofs.Common.{◌≡◌, ◌-◌}
use Rattle.cfm_prepare.specs.Bounds.{bytes_of}
use Rattle.cfm_sections.specs.Images.{extents_from}
use Rattle.cfm_prepare.specs.Kept.Bounds.{left_of}
use Rattle.pef_views.specs.Views.{contained}
use Rattle.cfm_prepare.proofs.bounds.left_after_sections.Given as goal

abbrev pub invariant-loop-i : goal.invariant-loop-i
invariant-loop-i l =
    left_of l.left (bytes_of l.granule.bytes (extents_from (contained l.container) l.i (l.count - l.i))) ≡ left_of l.bytes (bytes_of l.granule.bytes (extents_from (contained l.container) 0 l.count))
