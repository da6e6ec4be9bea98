-- The spaces before the mark, and the mark.
use Rattle.std.proofs.Common.{◌∷◌, [], ◌++◌, take}
use Rattle.pef_ports.proofs.Laws.Sending.{Sends-short, Sends-then, StopsShort-longer, StopsShort-then, same_printed, same_short}
use Rattle.pef_faults.specs.Notes.Excerpts.{blanks, mark_text, marks}
use Rattle.pef_faults.proofs.notes.excerpt.print_mark.Goals as goal

pub returns-in_err-send : goal.returns-in_err-send
unfolding mark_text
returns-in_err-send g c =
    let e = c.args.excerpt.now in
    Sends-short _ c.from_residual.result _ c.from_residual.ensures.1 (StopsShort-longer (take e.column blanks ++ (take e.marked marks ++ 10 ∷ [])) c.in_err-send.ensures)

pub returns-in_err-send-2 : goal.returns-in_err-send-2
unfolding mark_text blanks
returns-in_err-send-2 g c =
    let e = c.args.excerpt.now in
    let short = same_short c.front.ensures.part c.in_err-send-2.ensures in
    Sends-short _ c.from_residual-in_err-send-2.result _ c.from_residual-in_err-send-2.ensures.1 (StopsShort-then c.in_ok-send.ensures (StopsShort-longer (take e.marked marks ++ 10 ∷ []) short))

pub returns-in_err-send-3 : goal.returns-in_err-send-3
unfolding mark_text blanks marks
returns-in_err-send-3 g c =
    let blank = same_printed c.front.ensures.part c.in_ok-send-2.ensures in
    let short = same_short c.front-2.ensures.part c.in_err-send-3.ensures in
    Sends-short _ c.from_residual-in_err-send-3.result _ c.from_residual-in_err-send-3.ensures.1 (StopsShort-then c.in_ok-send.ensures (StopsShort-then blank (StopsShort-longer (10 ∷ []) short)))

pub returns : goal.returns
unfolding mark_text blanks marks
returns g c =
    let e = c.args.excerpt.now in
    let out = g.W.Sink.stream c.send-4.new.out in
    let left = c.send-4.new.page.items in
    let blank = same_printed c.front.ensures.part c.in_ok-send-2.ensures in
    let mark = same_printed c.front-2.ensures.part c.in_ok-send-3.ensures in
    let end = Sends-then c.send-4.result out left (10 ∷ []) mark c.send-4.ensures in
    let rest = Sends-then c.send-4.result out left (take e.marked marks ++ 10 ∷ []) blank end in
    Sends-then c.send-4.result out left (take e.column blanks ++ (take e.marked marks ++ 10 ∷ [])) c.in_ok-send.ensures rest
