-- The findings about what comes before, and the instruction.
use Rattle.pef_ports.proofs.Laws.Sending.{Prints-then, Sends-short, StopsShort-longer, StopsShort-then}
use Rattle.pef_report.proofs.walk.Walk.print_instr.Goals as goal

pub returns-in_err-print_before-clause-sends : goal.returns-in_err-print_before-clause-sends
returns-in_err-print_before-clause-sends g c = Sends-short _ c.from_residual.result _ c.from_residual.ensures.1 (StopsShort-longer _ c.in_err-print_before.ensures.sends)

pub returns-in_err-print_instr_line-clause-sends : goal.returns-in_err-print_instr_line-clause-sends
returns-in_err-print_instr_line-clause-sends g c = Sends-short _ c.from_residual-in_err-print_instr_line.result _ c.from_residual-in_err-print_instr_line.ensures.1 (StopsShort-then c.in_ok-print_before.ensures.sends c.in_err-print_instr_line.ensures)

pub returns-clause-sends : goal.returns-clause-sends
returns-clause-sends g c = Prints-then c.in_ok-print_before.ensures.sends c.in_ok-print_instr_line.ensures
