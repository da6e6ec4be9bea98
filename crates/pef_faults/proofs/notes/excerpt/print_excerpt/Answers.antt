-- The part, and then the mark.
use Rattle.std.proofs.Common.{◌++◌, take}
use Rattle.pef_ports.proofs.Laws.Sending.{Sends-short, Sends-then, StopsShort-longer, StopsShort-then, same_printed, same_short}
use Rattle.pef_faults.specs.Notes.Excerpts.{excerpt_text, mark_text}
use Rattle.pef_faults.proofs.notes.excerpt.print_excerpt.Goals as goal

pub returns-in_err-send : goal.returns-in_err-send
unfolding excerpt_text
returns-in_err-send g c =
    let e = c.args.excerpt.now in
    Sends-short _ c.from_residual.result _ c.from_residual.ensures.1 (StopsShort-longer (take e.len e.bytes ++ mark_text e) c.in_err-send.ensures)

pub returns-in_err-send-2 : goal.returns-in_err-send-2
unfolding excerpt_text
returns-in_err-send-2 g c =
    let e = c.args.excerpt.now in
    let short = same_short c.front.ensures.part c.in_err-send-2.ensures in
    Sends-short _ c.from_residual-in_err-send-2.result _ c.from_residual-in_err-send-2.ensures.1 (StopsShort-then c.in_ok-send.ensures (StopsShort-longer (mark_text e) short))

pub returns : goal.returns
unfolding excerpt_text
returns g c =
    let e = c.args.excerpt.now in
    let out = g.W.Sink.stream c.print_mark.new.out in
    let left = c.print_mark.new.page.items in
    let rest = Sends-then c.print_mark.result out left (mark_text e) (same_printed c.front.ensures.part c.in_ok-send-2.ensures) c.print_mark.ensures in
    Sends-then c.print_mark.result out left (take e.len e.bytes ++ mark_text e) c.in_ok-send.ensures rest
