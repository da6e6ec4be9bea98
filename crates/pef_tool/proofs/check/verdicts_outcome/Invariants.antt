use Rattle.std.proofs.Common.{◌≡◌, drop}
use Rattle.pef_tool.specs.Check.{verdicts_outcome}
use Rattle.pef_tool.proofs.check.verdicts_outcome.Given as goal

-- the remaining ones decide
abbrev pub invariant-loop-verdict : goal.invariant-loop-verdict
invariant-loop-verdict l = verdicts_outcome (drop l.verdict-index l.verdicts) ≡ verdicts_outcome l.verdicts
