-- No finding so far is one.
use Rattle.std.proofs.Common.{◌≡◌, drop}
use Rattle.pef_report.specs.Verdict.{has_number}
use Rattle.pef_report.proofs.verdict.has_number.Given as goal

abbrev pub invariant-loop-finding : goal.invariant-loop-finding
invariant-loop-finding l = has_number l.number (drop l.finding-index l.findings) ≡ has_number l.number l.findings
