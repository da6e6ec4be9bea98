use Rattle.std.proofs.Common.{length}
use Rattle.pef_cert.specs.Text.Grammar.{certificates_of}
use Rattle.pef_cert.specs.Text.Unread.{certificates_left, unread}
use Rattle.pef_tool.proofs.CheckLemmas.{JudgedSoFar}
use Rattle.pef_tool.proofs.check.check_certificates.Given as goal

-- some certificates were judged, and the others are left
abbrev pub invariant-certificates : goal.invariant-certificates
invariant-certificates l = JudgedSoFar l.script l.judging (certificates_of l.certificates) (certificates_left l.reader)

abbrev pub decreases-certificates : goal.decreases-certificates
decreases-certificates l = length (unread l.reader).text
