-- The offset and the words of a listing.
use Rattle.pef_listing.specs.Instructions.{instr_text}
use Rattle.pef_rows.specs.Programs.{instr_line}
use Rattle.pef_ports.proofs.Laws.Sending.{Sends-short, Sends-then, StopsShort-longer}
use Rattle.pef_rows.proofs.programs.print_instr_line.Goals as goal

pub returns-in_err-print_tokens : goal.returns-in_err-print_tokens
unfolding instr_line
returns-in_err-print_tokens g c = Sends-short _ c.from_residual.result _ c.from_residual.ensures.1 (StopsShort-longer (instr_text c.args.row.instr) c.in_err-print_tokens.ensures)

pub returns : goal.returns
unfolding instr_line
returns g c = Sends-then c.print_instr.result (g.W.Sink.stream c.print_instr.new.out) _ _ c.in_ok-print_tokens.ensures c.print_instr.ensures
