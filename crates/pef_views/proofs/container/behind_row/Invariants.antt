-- The sections left decide.
use Rattle.std.proofs.Common.{◌≡◌, ◌-◌}
use Rattle.pef_words.specs.Refusals.{first_among}
use Rattle.pef_views.specs.Container.{behind_row_at}
use Rattle.pef_views.proofs.container.behind_row.Given as goal

abbrev pub invariant-loop-i : goal.invariant-loop-i
invariant-loop-i l =
    first_among (behind_row_at l.cut.bytes.now l.header) l.i (l.header.section_count - l.i)
    ≡ first_among (behind_row_at l.cut.bytes.now l.header) 0 l.header.section_count
