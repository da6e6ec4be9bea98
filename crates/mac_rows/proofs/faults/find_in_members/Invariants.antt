-- The errors so far and those of the rows left are all.
use Rattle.std.proofs.Common.{◌≡◌, ◌++◌}
use Rattle.cfm_members.specs.Members.{all_members}
use Rattle.cfm_members.specs.Views.{left, table_seen}
use Rattle.mac_rows.specs.Faults.{members_faults}
use Rattle.mac_rows.specs.Views.{member_table_seen}
use Rattle.mac_rows.proofs.faults.find_in_members.Given as goal

abbrev pub invariant-loop-row : goal.invariant-loop-row
invariant-loop-row g l = l.found.items ++ members_faults (member_table_seen l.table) (left l.row-iterator) ≡ l.fn.found.items ++ members_faults (member_table_seen l.table) (all_members (table_seen l.table.fragments))
