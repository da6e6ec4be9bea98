-- The instruction, the offset, and the word.
use Rattle.std.proofs.Common.{◌++◌}
use Rattle.pef_ports.proofs.Laws.Sending.{Sends-short, Sends-then, StopsShort-longer, StopsShort-then}
use Rattle.pef_faults.specs.Notes.Places.{offset_sentence, program_text, word_sentence}
use Rattle.pef_faults.proofs.notes.places.print_program.Goals as goal

pub returns-in_err-print_instruction : goal.returns-in_err-print_instruction
unfolding program_text
returns-in_err-print_instruction g c =
    let rest = offset_sentence c.args.place.offset ++ word_sentence c.args.word in
    Sends-short _ c.from_residual.result _ c.from_residual.ensures.1 (StopsShort-longer rest c.in_err-print_instruction.ensures)

pub returns-in_err-print_offset : goal.returns-in_err-print_offset
unfolding program_text
returns-in_err-print_offset g c =
    Sends-short _ c.from_residual-in_err-print_offset.result _ c.from_residual-in_err-print_offset.ensures.1 (StopsShort-then c.in_ok-print_instruction.ensures (StopsShort-longer (word_sentence c.args.word) c.in_err-print_offset.ensures))

pub returns : goal.returns
unfolding program_text
returns g c =
    let out = g.W.Sink.stream c.print_word.new.out in
    let left = c.print_word.new.page.items in
    let rest = Sends-then c.print_word.result out left (word_sentence c.args.word) c.in_ok-print_offset.ensures c.print_word.ensures in
    Sends-then c.print_word.result out left (offset_sentence c.args.place.offset ++ word_sentence c.args.word) c.in_ok-print_instruction.ensures rest
