-- A turn prints the line of equal rows.
use Rattle.std.proofs.Common.{◌+◌, ◌-◌, drop, take, slice_index_or}
use Rattle.std.proofs.lemmas.List.{drop_more}
use Rattle.pef_ports.proofs.Laws.Sending.{Sends-short, sent-nothing, sent-piece, sent-short}
use Rattle.pef_cert.specs.Text.Printed.{range_text}
use Rattle.pef_labels.proofs.Laws.{runs-next}
use Rattle.pef_cert.proofs.TextProofs.RangeLemmas.{packed_text-more}
use Rattle.pef_cert.proofs.text.printer.print_packed.Goals as goal

pub loop-end-init : goal.loop-end-init
loop-end-init g c =
    let full = c.kept-width.ensures.full in
    record {
      sent = rw c.kept-width.ensures.rows (sent-nothing _ _ _);
      full = record { rising = full.rising; full = full.full; apart = full.apart };
    }

pub returns-in_err-print_next_run : goal.returns-in_err-print_next_run
returns-in_err-print_next_run g c =
    let kept = c.kept-width.result in
    let at = c.loop-end in
    let here = drop_more kept.ends.now at.end-index 0 c.loop-end-test.true in
    let next = packed_text-more kept.width at.first (slice_index_or kept.ends.now at.end-index 0) (drop at.end-index kept.ends.now) (drop (at.end-index + 1) kept.ends.now) at.numbers at.invariant.full here in
    let line = range_text (record { first = at.first; last = slice_index_or kept.ends.now at.end-index 0 - 1; labels = take kept.width at.numbers }) in
    Sends-short _ c.from_residual.result _ c.from_residual.ensures.1 (sent-short {piece = line} _ at.invariant.sent next c.in_err-print_next_run.ensures.sent)

pub loop-end-preserved : goal.loop-end-preserved
loop-end-preserved g c =
    let kept = c.kept-width.result in
    let at = c.loop-end in
    let end = slice_index_or kept.ends.now at.end-index 0 in
    let left = drop (at.end-index + 1) kept.ends.now in
    let here = drop_more kept.ends.now at.end-index 0 c.loop-end-test.true in
    let next = packed_text-more kept.width at.first end (drop at.end-index kept.ends.now) left at.numbers at.invariant.full here in
    let line = range_text (record { first = at.first; last = end - 1; labels = take kept.width at.numbers }) in
    rw c.in_ok-print_next_run.ensures.left (record {
      sent = sent-piece {piece = line} _ at.invariant.sent next c.in_ok-print_next_run.ensures.sent;
      full = runs-next kept.width at.first end (drop at.end-index kept.ends.now) left at.numbers at.invariant.full here;
    })
