-- The size and then the lengths.
use Rattle.std.proofs.Common.{List, ℕ, length, ap}
use Rattle.pef_ports.proofs.Laws.Sending.{Sends-short, Sends-then, StopsShort-longer, same_printed, same_short}
use Rattle.pef_tool.specs.Link.{lengths_text, size_text}
use Rattle.pef_tool.proofs.link.print_linked.Goals as goal

pub returns-in_err-print_size : goal.returns-in_err-print_size
returns-in_err-print_size g c =
    let lengths = c.args.linked.now.lengths in
    let short = same_short (ap (λ (b : List ℕ). size_text (length b)) c.bytes.ensures) c.in_err-print_size.ensures in
    Sends-short _ c.from_residual.result _ c.from_residual.ensures.1 (StopsShort-longer (lengths_text 0 lengths) short)

pub returns : goal.returns
returns g c =
    let size = same_printed (ap (λ (b : List ℕ). size_text (length b)) c.bytes.ensures) c.in_ok-print_size.ensures in
    Sends-then c.print_lengths.result (g.W.Sink.stream c.print_lengths.new.out) c.print_lengths.new.page.items (lengths_text 0 c.args.linked.now.lengths) size c.print_lengths.ensures
