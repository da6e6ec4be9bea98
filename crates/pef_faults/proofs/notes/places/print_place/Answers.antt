-- The field, the row, and the offset.
use Rattle.std.proofs.Common.{◌++◌}
use Rattle.pef_ports.proofs.Laws.Sending.{Sends-short, Sends-then, StopsShort-longer, StopsShort-then}
use Rattle.pef_faults.specs.Notes.Places.{field_sentence, offset_sentence, place_text, row_sentence}
use Rattle.pef_faults.proofs.notes.places.print_place.Goals as goal

pub returns-in_err-send : goal.returns-in_err-send
unfolding place_text
returns-in_err-send g c =
    let p = c.args.place in
    Sends-short _ c.from_residual.result _ c.from_residual.ensures.1 (StopsShort-longer (field_sentence p ++ (row_sentence p ++ offset_sentence p.offset)) c.in_err-send.ensures)

pub returns-in_err-print_field : goal.returns-in_err-print_field
unfolding place_text
returns-in_err-print_field g c =
    let p = c.args.place in
    Sends-short _ c.from_residual-in_err-print_field.result _ c.from_residual-in_err-print_field.ensures.1 (StopsShort-then c.in_ok-send.ensures (StopsShort-longer (row_sentence p ++ offset_sentence p.offset) c.in_err-print_field.ensures))

pub returns-in_err-print_row : goal.returns-in_err-print_row
unfolding place_text
returns-in_err-print_row g c =
    let p = c.args.place in
    let short = StopsShort-then c.in_ok-print_field.ensures (StopsShort-longer (offset_sentence p.offset) c.in_err-print_row.ensures) in
    Sends-short _ c.from_residual-in_err-print_row.result _ c.from_residual-in_err-print_row.ensures.1 (StopsShort-then c.in_ok-send.ensures short)

pub returns : goal.returns
unfolding place_text
returns g c =
    let p = c.args.place in
    let out = g.W.Sink.stream c.print_offset.new.out in
    let left = c.print_offset.new.page.items in
    let row = Sends-then c.print_offset.result out left (offset_sentence p.offset) c.in_ok-print_row.ensures c.print_offset.ensures in
    let rest = Sends-then c.print_offset.result out left (row_sentence p ++ offset_sentence p.offset) c.in_ok-print_field.ensures row in
    Sends-then c.print_offset.result out left (field_sentence p ++ (row_sentence p ++ offset_sentence p.offset)) c.in_ok-send.ensures rest
