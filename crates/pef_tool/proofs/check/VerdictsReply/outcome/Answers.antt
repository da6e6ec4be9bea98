-- The outcome of the verdicts.
use Rattle.std.proofs.Common.{ap, ◌∙◌}
use Rattle.pef_tool.specs.Check.{verdicts_outcome}
use Rattle.pef_tool.proofs.check.VerdictsReply.outcome.Goals as goal

pub returns : goal.returns
returns c = c.verdicts_outcome.ensures ∙ ap verdicts_outcome c.as_slice.ensures.value
