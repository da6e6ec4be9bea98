-- Each row sends its text.
use Rattle.std.proofs.Common.{◌∙◌, ap, true}
use Rattle.cfm_members.specs.Members.{all_members}
use Rattle.cfm_members.specs.Views.{left, table_seen}
use Rattle.pef_ports.proofs.Laws.Sending.{Sends-short, sent-nothing, sent-piece, sent-short}
use Rattle.mac_rows.specs.Fragments.{fragments_text}
use Rattle.mac_rows.specs.Views.{member_table_seen}
use Rattle.mac_rows.proofs.FragmentLemmas.{next_row}
use Rattle.mac_rows.proofs.fragments.print_fragments.Goals as goal

pub loop-row-init : goal.loop-row-init
loop-row-init g c =
    let t = member_table_seen c.args.table in
    let left_is = ap left c.into_iter-row-iterator.ensures.into_iter_gives ∙ c.members-row-items.ensures.rows in
    rw left_is (sent-nothing (g.W.Sink.stream c.args.out.now) c.args.page.now.items (fragments_text c.args.form true t (all_members (table_seen c.args.table.fragments))))

pub returns-in_err-print_maybe : goal.returns-in_err-print_maybe
returns-in_err-print_maybe g c =
    let at = c.loop-row in
    let t = member_table_seen c.args.table in
    let next = next_row c.args.form at.is_first t _ _ _ _ c.in-Some.ensures.steps c.fragment_in-fragment.ensures in
    Sends-short _ c.from_residual.result _ c.from_residual.ensures.1 (sent-short _ at.invariant next c.in_err-print_maybe.ensures)

pub loop-row-preserved : goal.loop-row-preserved
loop-row-preserved g c =
    let at = c.loop-row in
    let t = member_table_seen c.args.table in
    let next = next_row c.args.form at.is_first t _ _ _ _ c.in-Some.ensures.steps c.fragment_in-fragment.ensures in
    rw c.stays_first-is_first.ensures (sent-piece _ at.invariant next c.in_ok-print_maybe.ensures)
