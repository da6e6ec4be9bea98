-- No finding so far is one.
use Rattle.std.proofs.Common.{◌≡◌, drop}
use Rattle.pef_report.specs.Verdict.{has_other}
use Rattle.pef_report.proofs.verdict.has_other.Given as goal

abbrev pub invariant-loop-finding : goal.invariant-loop-finding
invariant-loop-finding l = has_other l.one l.two (drop l.finding-index l.findings) ≡ has_other l.one l.two l.findings
