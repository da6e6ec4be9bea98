-- The header, its instructions, and the end of the object.
use Rattle.std.proofs.Common.{◌++◌, codes, option_map}
use Rattle.pef_rows.specs.Programs.{program_or_null, relocation_object}
use Rattle.pef_rows.specs.RowViews.{program_seen}
use Rattle.pef_ports.proofs.Laws.Sending.{Sends-short, Sends-then, StopsShort-longer, StopsShort-then}
use Rattle.pef_rows.proofs.programs.print_relocation_object.Goals as goal

pub returns-in_err-print_relocation_front : goal.returns-in_err-print_relocation_front
unfolding relocation_object
returns-in_err-print_relocation_front g c = Sends-short _ c.from_residual.result _ c.from_residual.ensures.1 (StopsShort-longer (program_or_null (option_map program_seen c.args.row.program) ++ codes "}") c.in_err-print_relocation_front.ensures)

pub returns-in_err-print_program_or_null : goal.returns-in_err-print_program_or_null
unfolding relocation_object
returns-in_err-print_program_or_null g c = Sends-short _ c.from_residual-in_err-print_program_or_null.result _ c.from_residual-in_err-print_program_or_null.ensures.1 (StopsShort-then c.in_ok-print_relocation_front.ensures (StopsShort-longer (codes "}") c.in_err-print_program_or_null.ensures))

pub returns : goal.returns
unfolding relocation_object
returns g c =
    let stream = g.W.Sink.stream c.send.new.out in
    Sends-then c.send.result stream _ _ c.in_ok-print_relocation_front.ensures (Sends-then c.send.result stream _ _ c.in_ok-print_program_or_null.ensures c.send.ensures)
