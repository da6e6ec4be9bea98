-- One name after the other.
use Rattle.std.proofs.Common.{codes, ap, ◌++◌}
use Rattle.pef_faults.specs.Names.{fault_names}
use Rattle.pef_ports.proofs.Laws.Sending.{Sends-short, Sends-then, StopsShort-longer, StopsShort-then, same_printed, same_sent, same_short}
use Rattle.pef_tool.specs.Answers.Faults.{names_text, reported_text}
use Rattle.pef_tool.proofs.answers.fault.print_names.Goals as goal

pub returns-in_err-print_reported : goal.returns-in_err-print_reported
unfolding names_text
returns-in_err-print_reported g c =
    let names = fault_names c.args.fault.now in
    let short = same_short (ap (λ n. reported_text (codes " in ") n.fragment) c.names-names.ensures) c.in_err-print_reported.ensures in
    Sends-short _ c.from_residual.result _ c.from_residual.ensures.1 (StopsShort-longer (reported_text (codes " library ") names.library ++ reported_text (codes " symbol ") names.symbol) short)

pub returns-in_err-print_reported-2 : goal.returns-in_err-print_reported-2
unfolding names_text
returns-in_err-print_reported-2 g c =
    let names = fault_names c.args.fault.now in
    let start = same_printed (ap (λ n. reported_text (codes " in ") n.fragment) c.names-names.ensures) c.in_ok-print_reported.ensures in
    let short = same_short (ap (λ n. reported_text (codes " library ") n.library) c.names-names.ensures) c.in_err-print_reported-2.ensures in
    Sends-short _ c.from_residual-in_err-print_reported-2.result _ c.from_residual-in_err-print_reported-2.ensures.1 (StopsShort-then start (StopsShort-longer (reported_text (codes " symbol ") names.symbol) short))

pub returns : goal.returns
unfolding names_text
returns g c =
    let stream = g.W.Sink.stream in
    let names = fault_names c.args.fault.now in
    let out = stream c.print_reported-3.new.out in
    let left = c.print_reported-3.new.page.items in
    let start = same_printed (ap (λ n. reported_text (codes " in ") n.fragment) c.names-names.ensures) c.in_ok-print_reported.ensures in
    let bound = same_printed (ap (λ n. reported_text (codes " library ") n.library) c.names-names.ensures) c.in_ok-print_reported-2.ensures in
    let last = same_sent c.print_reported-3.result _ out _ left (ap (λ n. reported_text (codes " symbol ") n.symbol) c.names-names.ensures) c.print_reported-3.ensures in
    let rest = Sends-then c.print_reported-3.result out left (reported_text (codes " symbol ") names.symbol) bound last in
    Sends-then c.print_reported-3.result out left (reported_text (codes " library ") names.library ++ reported_text (codes " symbol ") names.symbol) start rest
