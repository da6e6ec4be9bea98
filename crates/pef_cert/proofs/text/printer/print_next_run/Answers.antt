-- The indices, the labels, and the end of the line.
use Rattle.std.proofs.Common.{◌++◌, take}
use Rattle.std.specs.Prelude.{codes}
use Rattle.pef_ports.proofs.Laws.Sending.{Sends-short, Sends-then, StopsShort-longer}
use Rattle.pef_cert.specs.Text.Printed.{number_words, words_text}
use Rattle.pef_cert.proofs.TextProofs.PrintLemmas.{range_line-parts}
use Rattle.pef_cert.proofs.text.printer.print_next_run.Goals as goal

pub returns-in_err-print_indices-clause-sent : goal.returns-in_err-print_indices-clause-sent
returns-in_err-print_indices-clause-sent g c =
    let labels = take c.args.width c.args.numbers.now in
    rw (range_line-parts (record { first = c.args.at.first; last = c.args.at.last; labels = labels }))
    (Sends-short _ c.from_residual.result _ c.from_residual.ensures.1 (StopsShort-longer (words_text (number_words labels) ++ codes "\n") c.in_err-print_indices.ensures))

pub returns-in_err-print_next-clause-sent : goal.returns-in_err-print_next-clause-sent
returns-in_err-print_next-clause-sent g c =
    let result = c.from_residual-in_err-print_next.result in
    let labels = take c.args.width c.args.numbers.now in
    rw (range_line-parts (record { first = c.args.at.first; last = c.args.at.last; labels = labels }))
    (Sends-then result _ _ _ c.in_ok-print_indices.ensures
    (Sends-short _ result _ c.from_residual-in_err-print_next.ensures.1 (StopsShort-longer (codes "\n") c.in_err-print_next.ensures.sent)))

pub returns-clause-sent : goal.returns-clause-sent
returns-clause-sent g c =
    let labels = take c.args.width c.args.numbers.now in
    rw (range_line-parts (record { first = c.args.at.first; last = c.args.at.last; labels = labels }))
    (Sends-then c.send.result _ _ _ c.in_ok-print_indices.ensures
    (Sends-then c.send.result _ _ (codes "\n") c.in_ok-print_next.ensures.sent c.send.ensures))
