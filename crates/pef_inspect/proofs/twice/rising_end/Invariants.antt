-- The words passed rise up to the end, from which on the others are tested.
use Rattle.std.proofs.Common.{◌≡◌}
use Rattle.pef_reloc.specs.Left.{fixups_left}
use Rattle.pef_inspect.specs.Kept.Rising.{rising_end}
use Rattle.pef_inspect.proofs.twice.rising_end.Given as goal

abbrev pub invariant-loop-addition : goal.invariant-loop-addition
invariant-loop-addition l = rising_end l.first (fixups_left l.fixups) ≡ rising_end l.end (fixups_left l.rest)
