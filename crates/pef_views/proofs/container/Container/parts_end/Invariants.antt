-- The greatest end so far, and those of the sections left.
use Rattle.std.specs.Prelude.{◌≡◌, ◌-◌, max}
use Rattle.pef_views.specs.Container.{section_of}
use Rattle.pef_views.specs.Extents.{greatest, parts_end, raw_end}
use Rattle.pef_views.specs.Views.{contained}
use Rattle.pef_views.proofs.container.Container.parts_end.Given as goal

abbrev pub invariant-loop-i : goal.invariant-loop-i
invariant-loop-i l =
    max l.end (greatest (λ i. raw_end (section_of (contained l.self) i)) l.i (l.count - l.i)) ≡ parts_end (contained l.self)
