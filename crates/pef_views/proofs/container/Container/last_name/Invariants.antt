-- The last name so far, and those of the sections left.
use Rattle.std.specs.Prelude.{◌≡◌, ◌≤◌, ◌-◌, length, max}
use Rattle.pef_views.specs.Container.{section_of}
use Rattle.pef_views.specs.Extents.{greatest, last_name, name_start}
use Rattle.pef_views.specs.Views.{contained}
use Rattle.pef_views.proofs.container.Container.last_name.Given as goal

abbrev pub invariant-loop-i : goal.invariant-loop-i
invariant-loop-i l =
    (max l.last (greatest (λ i. name_start (contained l.self) (section_of (contained l.self) i)) l.i (l.count - l.i)) ≡ last_name (contained l.self))
    × (l.last ≤ length (contained l.self).bytes)
