-- The lines left.
use Rattle.std.proofs.Common.{◌≡◌, ◌<◌, ◌≤◌, ◌+◌, ◌-◌, ◌++◌, length, drop, sym, ap, ◌∙◌, arith, rules}
use Rattle.pef_ports.specs.Text.{dump_text}
use Rattle.pef_ports.proofs.Laws.Sending.{Sends-short, Sends-then, sent-all, sent-nothing, sent-piece, sent-short}
use Rattle.pef_ports.proofs.TextLemmas.{dump_text-last, dump_text-lines, dump_text-none}
use Rattle.pef_ports.proofs.dump.print_memory.Goals as goal

pub loop-rest-init : goal.loop-rest-init
loop-rest-init g c =
    let bytes = c.args.bytes.now in
    let start : c.args.address + (length bytes - length bytes) ≡ c.args.address = omega arith in
    record { inside = omega arith; sent = rw start (sent-nothing (g.W.Sink.stream c.args.out.now) c.args.page.now.items (dump_text c.args.address bytes)) }

pub returns-in_err-print_rows : goal.returns-in_err-print_rows
returns-in_err-print_rows g c =
    let rest = c.loop-rest.rest.now in
    let address = c.args.address in
    let n = length c.args.bytes.now in
    let count = c.next_rows.result in
    let left = dump_text (address + (n - length (drop count rest))) (drop count rest) in
    let next : dump_text (address + (n - length rest)) rest ≡ dump_text (address + (n - length rest)) c.split_at.result.0.now ++ left =
    dump_text-lines count address n rest c.next_rows.ensures.rows c.next_rows.ensures.inside c.loop-rest.invariant.inside ∙ ap (λ bytes. dump_text (address + (n - length rest)) bytes ++ left) (sym c.split_at.ensures.front) in
    Sends-short _ c.from_residual.result _ c.from_residual.ensures.1 (sent-short left c.loop-rest.invariant.sent next c.in_err-print_rows.ensures)

pub loop-rest-preserved : goal.loop-rest-preserved
loop-rest-preserved g c =
    let rest = c.loop-rest.rest.now in
    let address = c.args.address in
    let n = length c.args.bytes.now in
    let count = c.next_rows.result in
    let left = dump_text (address + (n - length (drop count rest))) (drop count rest) in
    let next : dump_text (address + (n - length rest)) rest ≡ dump_text (address + (n - length rest)) c.split_at.result.0.now ++ left =
    dump_text-lines count address n rest c.next_rows.ensures.rows c.next_rows.ensures.inside c.loop-rest.invariant.inside ∙ ap (λ bytes. dump_text (address + (n - length rest)) bytes ++ left) (sym c.split_at.ensures.front) in
    record {
      inside = omega (arith, c.split_at.ensures.back_len, c.loop-rest.invariant.inside);
      sent = rw c.split_at.ensures.back (sent-piece left c.loop-rest.invariant.sent next c.in_ok-print_rows.ensures);
    }

pub returns-then-is_empty : goal.returns-then-is_empty
returns-then-is_empty g c =
    let rest = c.loop-rest.rest.now in
    let none : length rest ≡ 0 = search rules in
    sent-all c.loop-rest.invariant.sent (dump_text-none _ rest none)

pub returns : goal.returns
returns g c =
    let rest = c.loop-rest.rest.now in
    let at = c.args.address + (length c.args.bytes.now - length rest) in
    let some : 0 < length rest = search rules in
    let few : length rest ≤ 16 = omega (arith, c.loop-rest-test.false) in
    let last : dump_text at rest ≡ c.as_slice.result.now = dump_text-last at rest some few ∙ sym (c.as_slice.ensures.value ∙ c.short_row.ensures) in
    let sent = c.loop-rest.invariant.sent in
    rw (← sent.whole, last) (Sends-then c.send.result _ _ _ sent.prints c.send.ensures)
