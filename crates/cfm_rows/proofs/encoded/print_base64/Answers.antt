-- Each chunk sends its characters, and then the rest does.
use Rattle.pef_ports.proofs.Laws.Sending.{Sends-short, Sends-then, same_sent, sent-nothing, sent-piece, sent-short}
use Rattle.cfm_rows.specs.Encoded.{base64_text}
use Rattle.cfm_rows.proofs.EncodedLemmas.{encoded_more}
use Rattle.cfm_rows.proofs.encoded.print_base64.Goals as goal

pub loop-chunk-init : goal.loop-chunk-init
loop-chunk-init g c = sent-nothing (g.W.Sink.stream c.args.out.now) c.args.page.now.items (base64_text c.args.bytes.now)

pub loop-chunk-preserved : goal.loop-chunk-preserved
loop-chunk-preserved g c =
    let cases = c.in-Some.ensures.cases in
    let next = encoded_more c.loop-chunk.rest.now c.in-Some.chunk.now c.in-Some.after.now cases.0 cases.1 cases.2 in
    sent-piece _ c.loop-chunk.invariant next c.in_ok-print_chunk.ensures

pub returns-in_err-print_chunk : goal.returns-in_err-print_chunk
returns-in_err-print_chunk g c =
    let cases = c.in-Some.ensures.cases in
    let next = encoded_more c.loop-chunk.rest.now c.in-Some.chunk.now c.in-Some.after.now cases.0 cases.1 cases.2 in
    Sends-short _ c.from_residual.result _ c.from_residual.ensures.1 (sent-short _ c.loop-chunk.invariant next c.in_err-print_chunk.ensures)

pub returns : goal.returns
returns g c =
    let so_far = c.loop-chunk.invariant in
    same_sent c.print_chunk-2.result _ _ _ _ so_far.whole (Sends-then c.print_chunk-2.result _ _ _ so_far.prints c.print_chunk-2.ensures)
