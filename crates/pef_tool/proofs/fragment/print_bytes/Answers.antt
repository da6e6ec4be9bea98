-- The line and then the memory.
use Rattle.pef_ports.specs.Text.{dump_text}
use Rattle.pef_ports.proofs.Laws.Sending.{Sends-short, Sends-then, StopsShort-longer}
use Rattle.pef_tool.proofs.fragment.print_bytes.Goals as goal

pub returns-in_err-print_heading : goal.returns-in_err-print_heading
returns-in_err-print_heading g c =
    Sends-short _ c.from_residual.result _ c.from_residual.ensures.1 (StopsShort-longer (dump_text c.args.address c.args.bytes.now) c.in_err-print_heading.ensures)

pub returns : goal.returns
returns g c = Sends-then c.print_memory.result (g.W.Sink.stream c.print_memory.new.out) c.print_memory.new.page.items (dump_text c.args.address c.args.bytes.now) c.in_ok-print_heading.ensures c.print_memory.ensures
