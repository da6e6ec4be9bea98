-- The words one after the other.
use Rattle.std.proofs.Common.{◌∷◌, [], ◌++◌, ap}
use Rattle.pef_script.specs.Text.Forms.{choices_of}
use Rattle.pef_ports.proofs.Laws.Sending.{Sends-short, Sends-then, StopsShort-longer, StopsShort-then, same_printed, same_short}
use Rattle.pef_faults.specs.Notes.Scripts.{choices_text, each_text}
use Rattle.pef_faults.proofs.notes.script.print_choices.Goals as goal

pub returns-in_err-send : goal.returns-in_err-send
unfolding choices_text
returns-in_err-send g c = Sends-short _ c.from_residual.result _ c.from_residual.ensures.1 (StopsShort-longer (each_text (choices_of c.args.kind) ++ 10 ∷ []) c.in_err-send.ensures)

pub returns-in_err-print_each : goal.returns-in_err-print_each
unfolding choices_text
returns-in_err-print_each g c =
    let short = same_short (ap each_text c.choices.ensures) c.in_err-print_each.ensures in
    Sends-short _ c.from_residual-in_err-print_each.result _ c.from_residual-in_err-print_each.ensures.1 (StopsShort-then c.in_ok-send.ensures (StopsShort-longer (10 ∷ []) short))

pub returns : goal.returns
unfolding choices_text
returns g c =
    let out = g.W.Sink.stream c.send-2.new.out in
    let left = c.send-2.new.page.items in
    let each = same_printed (ap each_text c.choices.ensures) c.in_ok-print_each.ensures in
    let rest = Sends-then c.send-2.result out left (10 ∷ []) each c.send-2.ensures in
    Sends-then c.send-2.result out left (each_text (choices_of c.args.kind) ++ 10 ∷ []) c.in_ok-send.ensures rest
