-- Each length sends its line.
use Rattle.std.proofs.Common.{◌≡◌, ◌+◌, ◌++◌, ◌≤◌, length, drop, sym, ap, arith}
use Rattle.std.proofs.lemmas.List.{drop_all}
use Rattle.pef_words.proofs.Laws.Lists.{drop-here}
use Rattle.pef_ports.proofs.Laws.Sending.{Sends-short, sent-all, sent-nothing, sent-piece, sent-short}
use Rattle.pef_tool.specs.Link.{length_text, lengths_text}
use Rattle.pef_tool.proofs.link.print_lengths.Goals as goal

pub loop-k-init : goal.loop-k-init
loop-k-init g c = sent-nothing (g.W.Sink.stream c.args.out.now) c.args.page.now.items (lengths_text 0 c.args.linked.now.lengths)

pub loop-k-preserved : goal.loop-k-preserved
loop-k-preserved g c =
    let at = c.loop-k in
    let lengths = c.args.linked.now.lengths in
    let rest = lengths_text (at.k + 1) (drop (at.k + 1) lengths) in
    let next : lengths_text at.k (drop at.k lengths) ≡ length_text at.k c.in-Some.length ++ rest = ap (lengths_text at.k) (drop-here lengths at.k c.in-Some.length (sym c.in-Some.ensures)) in
    sent-piece rest at.invariant next c.in_ok-print_length.ensures

pub returns-in_err-print_length : goal.returns-in_err-print_length
returns-in_err-print_length g c =
    let at = c.loop-k in
    let lengths = c.args.linked.now.lengths in
    let rest = lengths_text (at.k + 1) (drop (at.k + 1) lengths) in
    let next : lengths_text at.k (drop at.k lengths) ≡ length_text at.k c.in-Some.length ++ rest = ap (lengths_text at.k) (drop-here lengths at.k c.in-Some.length (sym c.in-Some.ensures)) in
    Sends-short _ c.from_residual.result _ c.from_residual.ensures.1 (sent-short rest at.invariant next c.in_err-print_length.ensures)

pub returns : goal.returns
returns g c =
    let past : length c.args.linked.now.lengths ≤ c.loop-k.k = omega (arith, c.sections-k-end.ensures) in
    sent-all c.loop-k.invariant (ap (lengths_text c.loop-k.k) (drop_all c.loop-k.k c.args.linked.now.lengths past))
