-- Each row sends its text.
use Rattle.std.proofs.Common.{◌∙◌, ap, true}
use Rattle.mac_resources.specs.Resources.{all_resources}
use Rattle.mac_resources.specs.Views.{fork_seen, left}
use Rattle.pef_ports.proofs.Laws.Sending.{Sends-short, sent-nothing, sent-piece, sent-short}
use Rattle.mac_rows.specs.ResourceRows.{resources_text}
use Rattle.mac_rows.proofs.ResourceLemmas.{next_resource}
use Rattle.mac_rows.proofs.resource_row.print_rows.Goals as goal

pub loop-row-init : goal.loop-row-init
loop-row-init g c =
    let left_is = ap left c.into_iter-row-iterator.ensures.into_iter_gives ∙ c.resources-row-items.ensures.rows in
    rw left_is (sent-nothing (g.W.Sink.stream c.args.out.now) c.args.page.now.items (resources_text c.args.form true c.args.base (all_resources (fork_seen c.args.fork))))

pub returns-in_err-print_row : goal.returns-in_err-print_row
returns-in_err-print_row g c =
    let at = c.loop-row in
    let next = next_resource c.args.form at.is_first c.args.base _ _ _ c.in-Some.ensures.steps in
    Sends-short _ c.from_residual.result _ c.from_residual.ensures.1 (sent-short _ at.invariant next c.in_err-print_row.ensures)

pub loop-row-preserved : goal.loop-row-preserved
loop-row-preserved g c =
    let at = c.loop-row in
    let next = next_resource c.args.form at.is_first c.args.base _ _ _ c.in-Some.ensures.steps in
    rw c.still_first-is_first.ensures (sent-piece _ at.invariant next c.in_ok-print_row.ensures)
