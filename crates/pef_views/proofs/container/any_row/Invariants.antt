-- The sections left decide.
use Rattle.std.proofs.Common.{◌≡◌, ◌-◌}
use Rattle.pef_words.specs.Refusals.{first_among}
use Rattle.pef_views.specs.Container.{loader_row_at}
use Rattle.pef_views.proofs.container.any_row.Given as goal

abbrev pub invariant-loop-i : goal.invariant-loop-i
invariant-loop-i l =
    first_among (loader_row_at l.cut.bytes.now) l.i (l.fn.header.section_count - l.i)
    ≡ first_among (loader_row_at l.cut.bytes.now) 0 l.fn.header.section_count
