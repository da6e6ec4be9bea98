-- The halfwords, the meaning, and the end of the object.
use Rattle.std.proofs.Common.{◌++◌, codes}
use Rattle.pef_listing.specs.Instructions.{kind_name, numbers_of}
use Rattle.pef_rows.specs.Programs.{instr_meaning, instr_object}
use Rattle.pef_ports.proofs.Laws.Sending.{Sends-short, Sends-then, StopsShort-longer, StopsShort-then}
use Rattle.pef_rows.proofs.programs.print_instr_object.Goals as goal

pub returns-in_err-print_front : goal.returns-in_err-print_front
unfolding instr_object
returns-in_err-print_front g c =
    let instr = c.args.row.instr in
    Sends-short _ c.from_residual.result _ c.from_residual.ensures.1 (StopsShort-longer (instr_meaning (kind_name instr) (numbers_of instr) ++ codes "]}") (rw c.spelling.ensures at c.in_err-print_front.ensures))

pub returns-in_err-print_meaning : goal.returns-in_err-print_meaning
unfolding instr_object
returns-in_err-print_meaning g c =
    let short = rw (c.kind_name.ensures, c.instr_numbers.ensures) at c.in_err-print_meaning.ensures in
    Sends-short _ c.from_residual-in_err-print_meaning.result _ c.from_residual-in_err-print_meaning.ensures.1 (StopsShort-then (rw c.spelling.ensures at c.in_ok-print_front.ensures) (StopsShort-longer (codes "]}") short))

pub returns : goal.returns
unfolding instr_object
returns g c =
    let stream = g.W.Sink.stream c.send.new.out in
    let meaning = rw (c.kind_name.ensures, c.instr_numbers.ensures) at c.in_ok-print_meaning.ensures in
    Sends-then c.send.result stream _ _ (rw c.spelling.ensures at c.in_ok-print_front.ensures) (Sends-then c.send.result stream _ _ meaning c.send.ensures)
