use Rattle.std.proofs.Common.{[], ◌∷◌, ◌++◌}
use Rattle.std.specs.Prelude.{codes}
use Rattle.pef_ports.proofs.Laws.Sending.{Sends-short, Sends-then, StopsShort-longer}
use Rattle.pef_cert.specs.Text.Printed.{number_words, words_text}
use Rattle.pef_cert.proofs.TextProofs.PrintLemmas.{registers_line-parts}
use Rattle.pef_cert.proofs.text.printer.print_registers.Goals as goal

pub returns-in_err-send : goal.returns-in_err-send
returns-in_err-send g c =
    let numbers = words_text (number_words c.args.registers.now ++ codes "*" ∷ []) in
    Sends-short _ c.from_residual.result _ c.from_residual.ensures.1 (StopsShort-longer (numbers ++ 0x0A ∷ []) c.in_err-send.ensures)

pub returns-in_err-print_numbers : goal.returns-in_err-print_numbers
returns-in_err-print_numbers g c =
    let result = c.from_residual-in_err-print_numbers.result in
    rw (registers_line-parts c.args.registers.now) (Sends-then result _ _ _ c.in_ok-send.ensures
    (Sends-short _ result _ c.from_residual-in_err-print_numbers.ensures.1 (StopsShort-longer (codes " *\n") c.in_err-print_numbers.ensures)))

pub returns : goal.returns
returns g c =
    let result = c.send-2.result in
    rw (registers_line-parts c.args.registers.now) (Sends-then result _ _ _ c.in_ok-send.ensures
    (Sends-then result _ _ (codes " *\n") c.in_ok-print_numbers.ensures c.send-2.ensures))
