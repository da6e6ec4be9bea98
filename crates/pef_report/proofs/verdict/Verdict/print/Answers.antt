-- The words are those of the verdict.
use Rattle.pef_report.specs.Verdict.{verdict_line}
use Rattle.pef_report.proofs.verdict.Verdict.print.Goals as goal

pub returns : goal.returns
unfolding verdict_line
returns g c = rw (c.state_word.ensures, c.part_state.ensures, c.part_state-2.ensures, c.part_state-3.ensures, c.part_state-4.ensures, c.text_if.ensures) at c.print_tokens.ensures
