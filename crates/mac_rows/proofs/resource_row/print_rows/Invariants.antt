-- A prefix was sent, and the rows that are left are still to be sent.
use Rattle.std.proofs.Common.{true}
use Rattle.mac_resources.specs.Resources.{all_resources}
use Rattle.mac_resources.specs.Views.{fork_seen, left}
use Rattle.pef_ports.proofs.Laws.Sending.{IsSentUpTo}
use Rattle.mac_rows.specs.ResourceRows.{resources_text}
use Rattle.mac_rows.proofs.resource_row.print_rows.Given as goal

abbrev pub invariant-loop-row : goal.invariant-loop-row
invariant-loop-row g l = IsSentUpTo (g.W.Sink.stream l.fn.out) (g.W.Sink.stream l.out) l.fn.page.items l.page.items (resources_text l.form true l.base (all_resources (fork_seen l.fork))) (resources_text l.form l.is_first l.base (left l.row-iterator))
