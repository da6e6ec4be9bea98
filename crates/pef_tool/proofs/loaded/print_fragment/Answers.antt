-- The name and then the sections.
use Rattle.std.proofs.Common.{ap}
use Rattle.pef_ports.proofs.Laws.Sending.{Prints-then, Sends-short, Sends-then, StopsShort-longer, StopsShort-then, same_printed, same_short}
use Rattle.pef_tool.specs.Fragment.{sections_text}
use Rattle.pef_tool.specs.Loaded.{fragment_name, sections_in}
use Rattle.pef_tool.specs.Answers.Faults.{name_end}
use Rattle.pef_tool.proofs.loaded.print_fragment.Goals as goal

pub returns-in_err-send : goal.returns-in_err-send
returns-in_err-send g c =
    let s = c.args.context.now in
    let p = c.args.position in
    Sends-short _ c.from_residual.result _ c.from_residual.ensures.1 (StopsShort-longer (sections_text 0 (sections_in s p)) (StopsShort-longer (name_end (fragment_name s p)) c.in_err-send.ensures))

pub returns-in_err-print_name_end : goal.returns-in_err-print_name_end
returns-in_err-print_name_end g c =
    let s = c.args.context.now in
    let p = c.args.position in
    let short = StopsShort-then c.in_ok-send.ensures (same_short (ap name_end c.name_of.ensures) c.in_err-print_name_end.ensures) in
    Sends-short _ c.from_residual-in_err-print_name_end.result _ c.from_residual-in_err-print_name_end.ensures.1 (StopsShort-longer (sections_text 0 (sections_in s p)) short)

pub returns : goal.returns
returns g c =
    let s = c.args.context.now in
    let p = c.args.position in
    let named = Prints-then c.in_ok-send.ensures (same_printed (ap name_end c.name_of.ensures) c.in_ok-print_name_end.ensures) in
    Sends-then c.print_sections.result (g.W.Sink.stream c.print_sections.new.out) c.print_sections.new.page.items (sections_text 0 (sections_in s p)) named c.print_sections.ensures
