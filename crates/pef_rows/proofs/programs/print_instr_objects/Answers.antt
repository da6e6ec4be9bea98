-- Each instruction sends its object.
use Rattle.std.proofs.Common.{ap, false}
use Rattle.pef_reloc.specs.Views.{placed}
use Rattle.pef_rows.specs.Programs.{step_objects}
use Rattle.pef_ports.proofs.Laws.Sending.{Sends-short, sent-all, sent-piece, sent-short}
use Rattle.pef_rows.proofs.programs.print_instr_objects.Goals as goal

pub loop-step-preserved : goal.loop-step-preserved
loop-step-preserved g c =
    let base = c.args.program.at in
    sent-piece (step_objects base false (placed c.next_placed.new.self)) c.loop-step.invariant (ap (step_objects base c.loop-step.is_first) c.in-Some.ensures.takes) (rw c.file_offset.ensures at c.in_ok-print_instr_element.ensures)

pub returns-in_err-print_instr_element : goal.returns-in_err-print_instr_element
returns-in_err-print_instr_element g c =
    let base = c.args.program.at in
    Sends-short _ c.from_residual.result _ c.from_residual.ensures.1 (sent-short (step_objects base false (placed c.next_placed.new.self)) c.loop-step.invariant (ap (step_objects base c.loop-step.is_first) c.in-Some.ensures.takes) (rw c.file_offset.ensures at c.in_err-print_instr_element.ensures))

pub returns : goal.returns
returns g c = sent-all c.loop-step.invariant (ap (step_objects c.args.program.at c.loop-step.is_first) c.in_default.ensures.takes.0)
