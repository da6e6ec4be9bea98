-- The rows left decide.
use Rattle.std.proofs.Common.{◌≡◌}
use Rattle.cfm_members.specs.Members.{all_members}
use Rattle.cfm_members.specs.Views.{left, table_seen}
use Rattle.pef_tool.specs.Spellings.{first_spelled}
use Rattle.pef_tool.proofs.spelling.first_spelled.Given as goal

abbrev pub invariant-loop-row : goal.invariant-loop-row
invariant-loop-row l = first_spelled l.asked (left l.row-iterator) ≡ first_spelled l.asked (all_members (table_seen l.table))
