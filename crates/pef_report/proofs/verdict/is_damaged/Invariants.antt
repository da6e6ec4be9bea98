-- No error so far is about the parts.
use Rattle.std.proofs.Common.{◌≡◌, drop}
use Rattle.pef_report.specs.Verdict.{is_damaged}
use Rattle.pef_report.proofs.verdict.is_damaged.Given as goal

abbrev pub invariant-loop-finding : goal.invariant-loop-finding
invariant-loop-finding l = is_damaged l.which l.is_read (drop l.finding-index l.findings) ≡ is_damaged l.which l.is_read l.findings
