-- The words are those of the verdict.
use Rattle.pef_report.specs.Verdict.{verdict_object}
use Rattle.pef_report.proofs.verdict.Verdict.print_member.Goals as goal

pub returns : goal.returns
unfolding verdict_object
returns g c = rw (c.state_word.ensures, c.part_state.ensures, c.part_state-2.ensures, c.part_state-3.ensures, c.part_state-4.ensures, c.truth.ensures) at c.print_tokens.ensures
