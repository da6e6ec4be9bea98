-- Part by part.
use Rattle.std.proofs.Common.{◌≡◌, length, rules}
use Rattle.pef_ports.proofs.Laws.Sending.{Sends-short, sent-all, sent-nothing, sent-piece, sent-short}
use Rattle.pef_cert.proofs.TextProofs.PrintLemmas.{numbers_text-none, numbers_text-split}
use Rattle.pef_cert.proofs.text.printer.print_numbers.Goals as goal

pub parts-init : goal.parts-init
parts-init g c = sent-nothing _ _ _

pub parts-preserved : goal.parts-preserved
parts-preserved g c =
    let next = numbers_text-split c.min.result c.parts.left.now c.split_at.result.0.now c.split_at.result.1.now c.split_at.ensures.front c.split_at.ensures.back in
    sent-piece _ c.parts.invariant next c.in_ok-print_part.ensures

pub returns-in_err-print_part : goal.returns-in_err-print_part
returns-in_err-print_part g c =
    let next = numbers_text-split c.min.result c.parts.left.now c.split_at.result.0.now c.split_at.result.1.now c.split_at.ensures.front c.split_at.ensures.back in
    Sends-short _ c.from_residual.result _ c.from_residual.ensures.1 (sent-short _ c.parts.invariant next c.in_err-print_part.ensures)

pub returns : goal.returns
returns g c =
    let none : length c.parts.left.now ≡ 0 = search rules in
    sent-all c.parts.invariant (numbers_text-none c.parts.left.now none)
