-- Line after line.
use Rattle.pef_ports.proofs.Laws.Sending.{Sends-short, Sends-then, StopsShort-longer}
use Rattle.pef_cert.proofs.text.printer.print_head.Goals as goal

pub returns-in_err-print_field : goal.returns-in_err-print_field
returns-in_err-print_field g c =
    rw (← c.from.ensures) (Sends-short _ c.from_residual.result _ c.from_residual.ensures.1 (StopsShort-longer _ c.in_err-print_field.ensures))

pub returns-in_err-print_field-2 : goal.returns-in_err-print_field-2
returns-in_err-print_field-2 g c =
    let result = c.from_residual-in_err-print_field-2.result in
    rw (← c.from.ensures) (Sends-then result _ _ _ c.in_ok-print_field.ensures (Sends-short _ result _ c.from_residual-in_err-print_field-2.ensures.1 (StopsShort-longer _ c.in_err-print_field-2.ensures)))

pub returns-in_err-print_field-3 : goal.returns-in_err-print_field-3
returns-in_err-print_field-3 g c =
    let result = c.from_residual-in_err-print_field-3.result in
    rw (← c.from.ensures, ← c.program_length.ensures) (Sends-then result _ _ _ c.in_ok-print_field.ensures (Sends-then result _ _ _ c.in_ok-print_field-2.ensures (Sends-short _ result _ c.from_residual-in_err-print_field-3.ensures.1 (StopsShort-longer _ c.in_err-print_field-3.ensures))))

pub returns-in_err-print_program : goal.returns-in_err-print_program
returns-in_err-print_program g c =
    let result = c.from_residual-in_err-print_program.result in
    rw (← c.from.ensures, ← c.program_length.ensures) (Sends-then result _ _ _ c.in_ok-print_field.ensures (Sends-then result _ _ _ c.in_ok-print_field-2.ensures (Sends-then result _ _ _ c.in_ok-print_field-3.ensures (Sends-short _ result _ c.from_residual-in_err-print_program.ensures.1 (StopsShort-longer _ c.in_err-print_program.ensures)))))

pub returns : goal.returns
returns g c =
    let result = c.print_registers.result in
    rw (← c.from.ensures, ← c.program_length.ensures) (Sends-then result _ _ _ c.in_ok-print_field.ensures (Sends-then result _ _ _ c.in_ok-print_field-2.ensures (Sends-then result _ _ _ c.in_ok-print_field-3.ensures (Sends-then result _ _ _ c.in_ok-print_program.ensures c.print_registers.ensures))))
