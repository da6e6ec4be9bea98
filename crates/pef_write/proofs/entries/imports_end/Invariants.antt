-- All imports passed are counted.
use Rattle.std.proofs.Common.{◌≤◌, ◌+◌, ◌-◌, length}
use Rattle.pef_write.proofs.Counts.{count_before}
use Rattle.pef_write.proofs.entries.imports_end.Given as goal

abbrev pub invariant-imports : goal.invariant-imports
invariant-imports l = l.end ≤ count_before (l.l + 1) l.script.imports

abbrev pub decreases-imports : goal.decreases-imports
decreases-imports l = length l.script.imports - l.end
