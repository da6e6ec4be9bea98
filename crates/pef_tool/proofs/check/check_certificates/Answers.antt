-- Each certificate is judged, and after the last one the verdicts are those on all.
use Rattle.pef_cert.specs.Text.Unread.{certificates_left}
use Rattle.pef_tool.proofs.CheckLemmas.{judged_whole, one_more}
use Rattle.pef_tool.proofs.check.check_certificates.Goals as goal

pub certificates-preserved : goal.certificates-preserved
certificates-preserved c =
    let at = c.certificates in
    let taken = rw c.in-Some.is at c.in_ok-certificate.ensures.next in
    one_more c.args.script.now c.in-Some.certificate at.judging c.judge.new.self _ (certificates_left at.reader) (certificates_left c.next_certificate.new.self) at.invariant taken c.in_ok-judge-in-Some.ensures

pub returns : goal.returns
returns c =
    let at = c.certificates in
    let none = rw c.in-None.is at c.in_ok-certificate.ensures.next in
    judged_whole c.args.script.now at.judging c.args.certificates.now (certificates_left at.reader) _ at.invariant none.0 c.end.ensures
