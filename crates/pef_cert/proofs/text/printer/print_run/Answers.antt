use Rattle.std.proofs.Common.{◌+◌, ◌-◌, ◌++◌}
use Rattle.std.specs.Prelude.{codes}
use Rattle.pef_ports.proofs.Laws.Sending.{Sends-short, Sends-then, StopsShort-longer}
use Rattle.pef_cert.specs.Text.Printed.{number_words, words_text}
use Rattle.pef_cert.proofs.TextProofs.PrintLemmas.{range_line-parts}
use Rattle.pef_cert.proofs.text.printer.print_run.Goals as goal

pub returns-in_err-print_indices : goal.returns-in_err-print_indices
returns-in_err-print_indices g c =
    let labels = c.args.run.labels.now in
    rw (range_line-parts (record { first = c.args.at; last = c.args.at + c.args.run.rows - 1; labels = labels }))
    (Sends-short _ c.from_residual.result _ c.from_residual.ensures.1 (StopsShort-longer (words_text (number_words labels) ++ codes "\n") c.in_err-print_indices.ensures))

pub returns-in_err-print_numbers : goal.returns-in_err-print_numbers
returns-in_err-print_numbers g c =
    let result = c.from_residual-in_err-print_numbers.result in
    rw (range_line-parts (record { first = c.args.at; last = c.args.at + c.args.run.rows - 1; labels = c.args.run.labels.now }))
    (Sends-then result _ _ _ c.in_ok-print_indices.ensures
    (Sends-short _ result _ c.from_residual-in_err-print_numbers.ensures.1 (StopsShort-longer (codes "\n") c.in_err-print_numbers.ensures)))

pub returns : goal.returns
returns g c =
    rw (range_line-parts (record { first = c.args.at; last = c.args.at + c.args.run.rows - 1; labels = c.args.run.labels.now }))
    (Sends-then c.send.result _ _ _ c.in_ok-print_indices.ensures
    (Sends-then c.send.result _ _ (codes "\n") c.in_ok-print_numbers.ensures c.send.ensures))
