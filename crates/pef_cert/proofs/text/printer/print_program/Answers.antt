use Rattle.std.proofs.Common.{◌<◌, [], ◌∷◌, ◌++◌, length, rules}
use Rattle.std.specs.Prelude.{codes}
use Rattle.pef_ports.proofs.Laws.Sending.{Sends-short, Sends-then, StopsShort-longer}
use Rattle.pef_cert.specs.Text.Printed.{program_words, words_text}
use Rattle.pef_cert.proofs.TextProofs.PrintLemmas.{program_line-parts}
use Rattle.pef_cert.proofs.text.printer.print_program.Goals as goal

pub returns-in_err-send : goal.returns-in_err-send
returns-in_err-send g c =
    Sends-short _ c.from_residual.result _ c.from_residual.ensures.1 (StopsShort-longer (words_text (program_words c.args.instrs.now) ++ 0x0A ∷ []) c.in_err-send.ensures)

pub returns-in_err-print_instrs : goal.returns-in_err-print_instrs
returns-in_err-print_instrs g c =
    let some : 0 < length c.args.instrs.now = search rules in
    let result = c.from_residual-in_err-print_instrs.result in
    rw (program_line-parts c.args.instrs.now some) (Sends-then result _ _ _ c.in_ok-send.ensures
    (Sends-short _ result _ c.from_residual-in_err-print_instrs.ensures.1 (StopsShort-longer (codes "\n") c.in_err-print_instrs.ensures)))

pub returns : goal.returns
returns g c =
    let some : 0 < length c.args.instrs.now = search rules in
    rw (program_line-parts c.args.instrs.now some) (Sends-then c.send-3.result _ _ _ c.in_ok-send.ensures
    (Sends-then c.send-3.result _ _ (codes "\n") c.in_ok-print_instrs.ensures c.send-3.ensures))
