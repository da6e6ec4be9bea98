-- A prefix was sent, and the rows that are left are still to be sent.
use Rattle.std.proofs.Common.{true}
use Rattle.cfm_members.specs.Members.{all_members}
use Rattle.cfm_members.specs.Views.{left, table_seen}
use Rattle.pef_ports.proofs.Laws.Sending.{IsSentUpTo}
use Rattle.mac_rows.specs.Fragments.{fragments_text}
use Rattle.mac_rows.specs.Views.{member_table_seen}
use Rattle.mac_rows.proofs.fragments.print_fragments.Given as goal

abbrev pub invariant-loop-row : goal.invariant-loop-row
invariant-loop-row g l = IsSentUpTo (g.W.Sink.stream l.fn.out) (g.W.Sink.stream l.out) l.fn.page.items l.page.items (fragments_text l.form true (member_table_seen l.table) (all_members (table_seen l.table.fragments))) (fragments_text l.form l.is_first (member_table_seen l.table) (left l.row-iterator))
