-- Each addition sends its word.
use Rattle.std.proofs.Common.{ap}
use Rattle.pef_ports.proofs.Laws.Sending.{Sends-short, sent-all, sent-piece, sent-short}
use Rattle.cfm_rows.specs.Relocations.{word_elements}
use Rattle.cfm_rows.proofs.relocations.print_words.Goals as goal

pub loop-addition-preserved : goal.loop-addition-preserved
loop-addition-preserved g c = record {
  can = c.loop-addition.invariant.can;
  finite = c.loop-addition.invariant.finite;
  sent = sent-piece _ c.loop-addition.invariant.sent (ap (word_elements c.loop-addition.is_first) c.in-Some.ensures.steps) c.in_ok-print_element.ensures;
}

pub returns-in_err-print_element : goal.returns-in_err-print_element
returns-in_err-print_element g c =
    Sends-short _ c.from_residual.result _ c.from_residual.ensures.1 (sent-short _ c.loop-addition.invariant.sent (ap (word_elements c.loop-addition.is_first) c.in-Some.ensures.steps) c.in_err-print_element.ensures)

pub returns : goal.returns
returns g c = sent-all c.loop-addition.invariant.sent (ap (word_elements c.loop-addition.is_first) c.in_default.ensures.steps.0)
