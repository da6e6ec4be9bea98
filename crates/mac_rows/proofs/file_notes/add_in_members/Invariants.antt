-- The notes so far and those on the rows left are all.
use Rattle.std.proofs.Common.{◌≡◌, ◌++◌}
use Rattle.cfm_members.specs.Members.{all_members}
use Rattle.cfm_members.specs.Views.{left, table_seen}
use Rattle.mac_rows.specs.FileNotes.{members_notes}
use Rattle.mac_rows.specs.Views.{member_table_seen}
use Rattle.mac_rows.proofs.file_notes.add_in_members.Given as goal

abbrev pub invariant-loop-row : goal.invariant-loop-row
invariant-loop-row g l = l.notes.items ++ members_notes (member_table_seen l.table) (left l.row-iterator) ≡ l.fn.notes.items ++ members_notes (member_table_seen l.table) (all_members (table_seen l.table.fragments))
