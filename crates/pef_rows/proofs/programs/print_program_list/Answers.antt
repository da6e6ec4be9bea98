-- The beginning of the list, its objects, and its end.
use Rattle.std.proofs.Common.{◌++◌, codes, true}
use Rattle.pef_rows.specs.Programs.{program_list, step_objects, steps_in}
use Rattle.pef_rows.specs.RowViews.{program_seen}
use Rattle.pef_ports.proofs.Laws.Sending.{Sends-short, Sends-then, StopsShort-longer, StopsShort-then}
use Rattle.pef_rows.proofs.programs.print_program_list.Goals as goal

pub returns-in_err-send : goal.returns-in_err-send
unfolding program_list
returns-in_err-send g c =
    let p = program_seen c.args.program in
    Sends-short _ c.from_residual.result _ c.from_residual.ensures.1 (StopsShort-longer (step_objects p.at true (steps_in p) ++ codes "]") c.in_err-send.ensures)

pub returns-in_err-print_instr_objects : goal.returns-in_err-print_instr_objects
unfolding program_list
returns-in_err-print_instr_objects g c = Sends-short _ c.from_residual-in_err-print_instr_objects.result _ c.from_residual-in_err-print_instr_objects.ensures.1 (StopsShort-then c.in_ok-send.ensures (StopsShort-longer (codes "]") c.in_err-print_instr_objects.ensures))

pub returns : goal.returns
unfolding program_list
returns g c =
    let stream = g.W.Sink.stream c.send-2.new.out in
    Sends-then c.send-2.result stream _ _ c.in_ok-send.ensures (Sends-then c.send-2.result stream _ _ c.in_ok-print_instr_objects.ensures c.send-2.ensures)
