-- The rows left decide.
use Rattle.std.proofs.Common.{◌≡◌, ◌-◌}
use Rattle.pef_words.specs.Refusals.{first_among}
use Rattle.mac_forks.specs.Views.{apple_seen}
use Rattle.mac_rows.specs.MacParts.{row_error_at}
use Rattle.mac_rows.proofs.wrapping.first_row_error.Given as goal

abbrev pub invariant-loop-i : goal.invariant-loop-i
invariant-loop-i l =
    first_among (row_error_at (apple_seen l.file)) l.i ((apple_seen l.file).header.entry_count - l.i)
    ≡ first_among (row_error_at (apple_seen l.file)) 0 (apple_seen l.file).header.entry_count
