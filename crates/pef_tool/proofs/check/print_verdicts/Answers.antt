-- Each verdict sends its line.
use Rattle.std.proofs.Common.{◌+◌, drop, ap}
use Rattle.std.proofs.lemmas.List.{at_drop_more, drop_all}
use Rattle.pef_ports.proofs.Laws.Sending.{Sends-short, sent-all, sent-nothing, sent-piece, sent-short}
use Rattle.pef_tool.specs.Check.{verdicts_text}
use Rattle.pef_tool.specs.declared.check.Verdict.TheVariants.{Yes}
use Rattle.pef_tool.proofs.check.print_verdicts.Goals as goal

pub loop-k-init : goal.loop-k-init
loop-k-init g c = sent-nothing (g.W.Sink.stream c.args.out.now) c.args.page.now.items (verdicts_text 0 c.args.verdicts.now)

pub loop-k-preserved : goal.loop-k-preserved
loop-k-preserved g c =
    let at = c.loop-k in
    let verdicts = c.args.verdicts.now in
    let rest = verdicts_text (at.k + 1) (drop (at.k + 1) verdicts) in
    sent-piece rest at.invariant (at_drop_more (verdicts_text at.k) verdicts at.k (Yes 0) c.loop-k-test.true) c.in_ok-print_verdict.ensures

pub returns-in_err-print_verdict : goal.returns-in_err-print_verdict
returns-in_err-print_verdict g c =
    let at = c.loop-k in
    let verdicts = c.args.verdicts.now in
    let rest = verdicts_text (at.k + 1) (drop (at.k + 1) verdicts) in
    Sends-short _ c.from_residual.result _ c.from_residual.ensures.1 (sent-short rest at.invariant (at_drop_more (verdicts_text at.k) verdicts at.k (Yes 0) c.loop-k-test.true) c.in_err-print_verdict.ensures)

pub returns : goal.returns
returns g c = sent-all c.loop-k.invariant (ap (verdicts_text c.loop-k.k) (drop_all c.loop-k.k c.args.verdicts.now c.loop-k-test.false))
