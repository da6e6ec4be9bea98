-- Each error, or each note, sends its object.
use Rattle.std.proofs.Common.{◌+◌, ◌∙◌, List, ℕ, drop, false, subst, sym, true}
use Rattle.std.proofs.lemmas.List.{at_drop_more}
use Rattle.pef_report.specs.Inspection.{findings_json}
use Rattle.pef_report.proofs.Merging.{chosen-next, no_finding, unchosen-next}
use Rattle.pef_ports.proofs.Laws.Sending.{IsSentUpTo, Sends-short, sent-piece, sent-short}
use Rattle.pef_report.proofs.found.print_chosen.Goals.{else-is_chosen, then-is_chosen+in_ok-print_element}
use Rattle.pef_report.proofs.found.print_chosen.Goals as goal

pub loop-finding-preserved : goal.loop-finding-preserved
loop-finding-preserved g c =
    let at = c.loop-finding in
    let chosen = c.args.chosen in
    let rest = drop (at.finding-index + 1) chosen.findings.now in
    let next = at_drop_more (findings_json chosen.base chosen.errors at.is_first) chosen.findings.now at.finding-index no_finding c.loop-finding-test.true in
    elim c.if-is_chosen.branch [
      | then-is_chosen+in_ok-print_element w ↦ rw (w.out-is, w.page-is, w.is_first-is)
          (sent-piece (findings_json chosen.base chosen.errors false rest) at.invariant (next ∙ chosen-next chosen.base chosen.errors at.is_first _ rest (sym c.is_chosen.ensures ∙ w.if-is_chosen.true)) w.in_ok-print_element.ensures)
      | else-is_chosen w ↦ rw (w.out-is, w.page-is, w.is_first-is)
          (subst (λ (left : List ℕ). IsSentUpTo (g.W.Sink.stream c.args.out.now) (g.W.Sink.stream at.out) c.args.page.now.items at.page.items (findings_json chosen.base chosen.errors true chosen.findings.now) left)
          (next ∙ unchosen-next chosen.base chosen.errors at.is_first _ rest (sym c.is_chosen.ensures ∙ w.if-is_chosen.false)) at.invariant)
    ]

pub returns-in_err-print_element : goal.returns-in_err-print_element
returns-in_err-print_element g c =
    let at = c.loop-finding in
    let chosen = c.args.chosen in
    let rest = drop (at.finding-index + 1) chosen.findings.now in
    let next = at_drop_more (findings_json chosen.base chosen.errors at.is_first) chosen.findings.now at.finding-index no_finding c.loop-finding-test.true ∙ chosen-next chosen.base chosen.errors at.is_first _ rest (sym c.is_chosen.ensures ∙ c.if-is_chosen.true) in
    Sends-short _ c.from_residual.result _ c.from_residual.ensures.1 (sent-short (findings_json chosen.base chosen.errors false rest) at.invariant next c.in_err-print_element.ensures)
