-- The sections that are left come after those so far.
use Rattle.std.proofs.Common.{◌≡◌, ◌-◌, ◌++◌}
use Rattle.pef_views.specs.Views.{contained}
use Rattle.cfm_prepare.specs.NewSections.{sections_from}
use Rattle.cfm_prepare.proofs.new_sections.append.Given as goal

abbrev pub invariant-loop-i : goal.invariant-loop-i
invariant-loop-i l =
    l.sections.items ++ sections_from l.granule.bytes l.fragment (contained l.container) l.i (l.count - l.i) ≡ l.fn.sections.items ++ sections_from l.granule.bytes l.fragment (contained l.container) 0 l.count
