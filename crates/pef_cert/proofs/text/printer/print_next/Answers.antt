-- Part by part.
use Rattle.std.proofs.Common.{◌≡◌, ◌+◌, ◌-◌, length, ap, ◌∙◌, arith}
use Rattle.std.proofs.lemmas.List.{length-append}
use Rattle.pef_ports.proofs.Laws.Sending.{Sends-short, sent-piece, sent-short}
use Rattle.pef_cert.proofs.TextProofs.PrintLemmas.{numbers-left, numbers_text-read}
use Rattle.pef_cert.proofs.text.printer.print_next.Goals as goal

pub returns-in_err-print_part-clause-sent : goal.returns-in_err-print_part-clause-sent
returns-in_err-print_part-clause-sent g c =
    let part = c.read.new.room in
    let counts : c.parts.left ≡ length part + (c.parts.left - length part) = omega (arith, c.read.ensures.len, c.split_at_mut-part.ensures.front_len, c.min.ensures) in
    let next = numbers_text-read c.parts.numbers part c.read.new.self c.parts.left (c.parts.left - length part) c.read.ensures.read counts in
    Sends-short _ c.from_residual.result _ c.from_residual.ensures.1 (sent-short _ c.parts.invariant.sent next c.in_err-print_part.ensures)

pub parts-preserved : goal.parts-preserved
parts-preserved g c =
    let part = c.read.new.room in
    let counts : c.parts.left ≡ length part + (c.parts.left - length part) = omega (arith, c.read.ensures.len, c.split_at_mut-part.ensures.front_len, c.min.ensures) in
    let next = numbers_text-read c.parts.numbers part c.read.new.self c.parts.left (c.parts.left - length part) c.read.ensures.read counts in
    let more : length c.parts.numbers ≡ length part + length c.read.new.self = ap length c.read.ensures.read ∙ length-append part c.read.new.self in
    record {
      sent = sent-piece _ c.parts.invariant.sent next c.in_ok-print_part.ensures;
      behind = c.parts.invariant.behind ∙ numbers-left c.parts.numbers part c.read.new.self c.parts.left (c.parts.left - length part) c.read.ensures.read counts;
      fits = omega (arith, c.parts.invariant.fits, more, counts);
    }
