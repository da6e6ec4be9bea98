-- A turn prints equal rows.
use Rattle.std.proofs.Common.{◌+◌, ◌-◌, length, ap, arith}
use Rattle.std.proofs.lemmas.List.{length-append, length-replicate}
use Rattle.pef_ports.proofs.Laws.Sending.{Sends-short, sent-all, sent-nothing, sent-piece, sent-short}
use Rattle.pef_cert.specs.Text.Printed.{range_text, ranges_of, ranges_text}
use Rattle.pef_cert.proofs.TextProofs.RangeLemmas.{run_text-more}
use Rattle.pef_cert.proofs.text.printer.print_labels.Goals as goal

pub loop-run-init : goal.loop-run-init
loop-run-init g c = record { sent = rw c.runs-runs.ensures (sent-nothing _ _ _); count = omega (arith, ap length c.runs-runs.ensures) }

pub loop-run-preserved : goal.loop-run-preserved
loop-run-preserved g c =
    let some = c.in-Some.ensures.run.0 in
    let parts = c.in-Some.ensures.run.1 in
    let count = simp (length-append, length-replicate) at (ap length parts) in
    let next = run_text-more c.loop-run.at c.in-Some.run'.rows c.in-Some.run'.labels.now c.loop-run.runs c.next_run.new.self some parts c.in-Some.ensures.whole in
    let line = range_text (record { first = c.loop-run.at; last = c.loop-run.at + c.in-Some.run'.rows - 1; labels = c.in-Some.run'.labels.now }) in
    record {
      sent = sent-piece {piece = line} _ c.loop-run.invariant.sent next c.in_ok-print_run.ensures;
      count = omega (arith, count);
    }

pub returns-in_err-print_run : goal.returns-in_err-print_run
returns-in_err-print_run g c =
    let some = c.in-Some.ensures.run.0 in
    let parts = c.in-Some.ensures.run.1 in
    let next = run_text-more c.loop-run.at c.in-Some.run'.rows c.in-Some.run'.labels.now c.loop-run.runs c.next_run.new.self some parts c.in-Some.ensures.whole in
    let line = range_text (record { first = c.loop-run.at; last = c.loop-run.at + c.in-Some.run'.rows - 1; labels = c.in-Some.run'.labels.now }) in
    Sends-short _ c.from_residual.result _ c.from_residual.ensures.1 (sent-short {piece = line} _ c.loop-run.invariant.sent next c.in_err-print_run.ensures)

pub returns : goal.returns
returns g c = sent-all c.loop-run.invariant.sent (ap (λ rows. ranges_text (ranges_of c.loop-run.at rows)) c.in_default.ensures.run)
